use Rattle.std.specs.Arc.{arc_value}
use Rattle.relay_main.specs.Checks.{IsCheckOf}
use Rattle.relay_main.specs.More.{HasMore}
use Rattle.relay_main.proofs.wanted_checks.add_each.Given as goal

abbrev pub invariant-loop-place : goal.invariant-loop-place
invariant-loop-place l =
    HasMore (IsCheckOf (arc_value l.served) (arc_value l.targets) l.said) l.initial.all.items l.all.items
