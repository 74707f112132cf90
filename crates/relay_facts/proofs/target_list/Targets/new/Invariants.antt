use Rattle.std.proofs.Common.{◌≡◌, length}
use Rattle.std.specs.Prelude.{map, take}
use Rattle.relay_facts.specs.Targets.{target_of}
use Rattle.relay_facts.proofs.target_list.Targets.new.Given as goal

abbrev pub invariant-loop-target : goal.invariant-loop-target
invariant-loop-target l =
    (length l.all.items ≡ l.target-index) × (map target_of l.all.items ≡ take l.target-index l.said)
