use Rattle.std.proofs.Common.{◌∙◌, ◌<◌, sym, ap, refl, arith, rules, length, slice_get}
use Rattle.std.proofs.lemmas.List.Folds.{find_at}
use Rattle.std.proofs.lemmas.Option.{slice_get_read}
use Rattle.relay_main.specs.Accounts.{is_account_of}
use Rattle.relay_main.proofs.accounts.account_at.Goals as goal

pub returns-then-place-accounts : goal.returns-then-place-accounts
returns-then-place-accounts c =
    let within : c.place_of-place.result < length c.args.accounts.now =
    omega (arith, c.if-place-accounts.true) in
    sym (slice_get_read c.args.accounts.now (length c.args.accounts.now) c.place_of-place.result
    c.index-accounts-place.result refl within (search rules))
    ∙ ap (slice_get c.args.accounts.now) c.place_of-place.ensures
    ∙ sym (find_at (is_account_of c.args.listen.now) c.args.accounts.now)
