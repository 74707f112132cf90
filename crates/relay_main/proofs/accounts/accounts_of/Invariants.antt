use Rattle.std.proofs.Common.{◌≡◌, ◌<◌, ℕ, true, Some, length}
use Rattle.std.specs.Prelude.{slice_get}
use Rattle.std.specs.declared.alloc.Global.{Global}
use Rattle.std.specs.declared.sync.Arc.{Arc}
use Rattle.relay_admin.specs.declared.rules.rule.Rule.{Rule}
use Rattle.relay_facts.specs.declared.served_rule.ServedRule.{ServedRule}
use Rattle.relay_main.specs.Accounts.{is_account_of}
use Rattle.relay_main.proofs.accounts.accounts_of.Given as goal

abbrev pub invariant-loop-rule : goal.invariant-loop-rule
invariant-loop-rule l = record {
  count : length l.all.items ≡ l.rule-index;
  own : (k : ℕ) (rule : Rule) (account : Arc ServedRule Global) → k < l.rule-index
      → slice_get l.rules k ≡ Some rule → slice_get l.all.items k ≡ Some account
      → is_account_of rule.listen account ≡ true;
}
