use Rattle.std.proofs.Common.{◌≡◌, ◌++◌, take}
use Rattle.std.specs.List.{flat_map}
use Rattle.relay_metrics.specs.Text.{of_each_target}
use Rattle.relay_metrics.proofs.target_text.write_family.Given as goal

abbrev pub invariant-loop-target : goal.invariant-loop-target
invariant-loop-target g l =
    l.into.items ≡ l.initial.into.items ++ flat_map (of_each_target l.family) (take l.target-index l.targets)
