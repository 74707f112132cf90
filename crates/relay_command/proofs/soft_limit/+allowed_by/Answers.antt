use Rattle.std.specs.Prelude.{◌<◌, ◌≤◌, ◌+◌, length, take}
use Rattle.std.proofs.Common.{◌∙◌, sym, ap, arith, rules}
use Rattle.std.proofs.lemmas.List.{take_rest}
use Rattle.stream_base.specs.Decimal.{number_of}
use Rattle.relay_command.specs.SoftLimit.{first_word, soft_limit}
use Rattle.relay_command.proofs.SoftLimitLemmas.{told, untold, untold_last}
use Rattle.relay_command.proofs.soft_limit.+allowed_by.Goals as goal

pub returns-then-tells_open_files : goal.returns-then-tells_open_files
returns-then-tells_open_files t c =
    let some : 0 < length c.args.limits.now = search rules in
    let line = take c.place_of-end.result c.args.limits.now in
    c.parse_decimal.ensures.value ∙ ap number_of (c.first_word.ensures ∙ ap first_word (take_rest line 14))
    ∙ sym (told c.args.limits.now c.place_of-end.result some c.place_of-end.ensures.value
    (sym c.tells_open_files.ensures ∙ c.if-tells_open_files.true))

pub returns-then-end-limits : goal.returns-then-end-limits
returns-then-end-limits t c =
    let some : 0 < length c.args.limits.now = search rules in
    let last : length c.args.limits.now ≤ c.place_of-end.result = omega (arith, c.if-end-limits.true) in
    sym (untold_last c.args.limits.now c.place_of-end.result some c.place_of-end.ensures.value
    (sym c.tells_open_files.ensures ∙ c.if-tells_open_files.false) last)

pub returns : goal.returns
returns t c =
    let some : 0 < length c.args.limits.now = search rules in
    c.allowed_by.ensures ∙ ap soft_limit (take_rest c.args.limits.now (c.place_of-end.result + 1))
    ∙ sym (untold c.args.limits.now c.place_of-end.result some c.place_of-end.ensures.value
    (sym c.tells_open_files.ensures ∙ c.if-tells_open_files.false))
