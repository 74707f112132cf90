use Rattle.std.proofs.Common.{◌≡◌, ◌++◌, take}
use Rattle.std.specs.List.{flat_map}
use Rattle.relay_metrics.specs.Text.{of_rule}
use Rattle.relay_metrics.proofs.rule_text.write_family.Given as goal

abbrev pub invariant-loop-rule : goal.invariant-loop-rule
invariant-loop-rule g l =
    l.into.items ≡ l.initial.into.items ++ flat_map (of_rule l.family) (take l.rule-index l.rules)
