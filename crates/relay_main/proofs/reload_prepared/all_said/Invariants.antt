use Rattle.std.proofs.Common.{◌≡◌, ◌<◌, ℕ, Some, length}
use Rattle.std.specs.Prelude.{slice_get}
use Rattle.std.specs.Arc.{arc_value}
use Rattle.std.specs.declared.alloc.Global.{Global}
use Rattle.std.specs.declared.sync.Arc.{Arc}
use Rattle.relay_facts.specs.Config.{SaysRule}
use Rattle.relay_facts.specs.declared.served_rule.Said.{Said}
use Rattle.relay_settings.specs.declared.targets.SaidRule.{SaidRule}
use Rattle.relay_main.proofs.reload_prepared.all_said.Given as goal

abbrev pub invariant-loop-rule : goal.invariant-loop-rule
invariant-loop-rule g l = record {
  count : length l.all.items ≡ l.rule-index;
  each : (k : ℕ) (rule : SaidRule) (said : Arc Said Global) → k < l.rule-index
      → slice_get l.rules k ≡ Some rule → slice_get l.all.items k ≡ Some said → SaysRule rule (arc_value said);
}
