use Rattle.std.proofs.Common.{◌≡◌, ◌∙◌, sym, ap, rules}
use Rattle.std.specs.Arc.{arc_value}
use Rattle.relay_admin.specs.rules.Addr.{address_of, same_address}
use Rattle.relay_facts.specs.declared.served_rule.ServedRule.{ServedRule}
use Rattle.relay_main.specs.Accounts.{is_account_of}
use Rattle.relay_main.proofs.ListeningLemmas.{find_passes}
use Rattle.relay_main.proofs.accounts.account_of.Goals as goal

pub returns-in_ok-try_clone-in-Some-clause-own : goal.returns-in_ok-try_clone-in-Some-clause-own
returns-in_ok-try_clone-in-Some-clause-own c =
    let same : arc_value c.in_ok-try_clone-in-Some.field-0 ≡ arc_value c.in-Some.account.now = search rules in
    ap (λ (served : ServedRule). same_address (address_of served.listen) (address_of c.args.rule.now.listen)) same
    ∙ find_passes (is_account_of c.args.rule.now.listen) c.args.accounts.now c.in-Some.account.now
    (sym c.in-Some.ensures)
