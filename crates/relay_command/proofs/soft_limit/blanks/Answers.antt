use Rattle.std.specs.Prelude.{length}
use Rattle.std.proofs.Common.{sym, arith, rules}
use Rattle.std.proofs.lemmas.List.Sums.{prefix_len_is}
use Rattle.relay_command.specs.SoftLimit.{is_blank}
use Rattle.relay_command.proofs.soft_limit.blanks.Goals as goal

pub returns-then-text-place-ne32-clause-value : goal.returns-then-text-place-ne32-clause-value
returns-then-text-place-ne32-clause-value c =
    sym (prefix_len_is is_blank c.args.text.now c.loop-place.place 0 (search rules)
    (λ k lt. c.loop-place.invariant k 0 lt) (λ lt. search rules))

pub returns-clause-value : goal.returns-clause-value
returns-clause-value c =
    sym (prefix_len_is is_blank c.args.text.now (length c.args.text.now) 0 (search rules)
    (λ k lt. c.loop-place.invariant k 0 (omega (arith, lt, c.loop-place-test.false))) (λ lt. absurd (omega arith)))
