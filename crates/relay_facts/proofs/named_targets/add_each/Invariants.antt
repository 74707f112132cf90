use Rattle.std.proofs.Common.{◌≡◌, ◌++◌, map, take}
use Rattle.relay_facts.specs.NamedTargets.{found_target}
use Rattle.relay_facts.proofs.named_targets.add_each.Given as goal

abbrev pub invariant-loop-at : goal.invariant-loop-at
invariant-loop-at l = l.all.items ≡ l.initial.all.items ++ map (found_target l.named) (take l.at-index l.found)
