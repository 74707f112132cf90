use Rattle.std.proofs.Common.{◌≡◌, ◌<◌, ℕ, Some, length}
use Rattle.std.specs.Prelude.{slice_get}
use Rattle.std.specs.Arc.{arc_value}
use Rattle.std.specs.declared.alloc.Global.{Global}
use Rattle.std.specs.declared.sync.Arc.{Arc}
use Rattle.relay_settings.specs.declared.targets.SaidRule.{SaidRule}
use Rattle.relay_facts.specs.Config.{ServesRule}
use Rattle.relay_facts.specs.declared.served_rule.ServedRule.{ServedRule}
use Rattle.relay_facts.proofs.config.served_rules.Given as goal

abbrev pub invariant-loop-rule : goal.invariant-loop-rule
invariant-loop-rule l = record {
  count : length l.all.items ≡ l.rule-index;
  each : (k : ℕ) (said : SaidRule) (served : Arc ServedRule Global) → k < l.rule-index
      → slice_get l.rules k ≡ Some said → slice_get l.all.items k ≡ Some served
      → ServesRule said.rule l.loops (arc_value served);
}
