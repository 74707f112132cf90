use Rattle.std.proofs.Common.{◌≡◌, ◌+◌, ◌≤◌, drop}
use Rattle.std.specs.Prelude.{map}
use Rattle.target_pick.specs.Pick.{taker}
use Rattle.target_pick.specs.Seen.{total}
use Rattle.target_pick.proofs.picking.count_takers.Given as goal

abbrev pub invariant-loop-target : goal.invariant-loop-target
invariant-loop-target l =
    (l.count + total (map taker (drop l.target-index l.targets)) ≡ total (map taker l.targets))
    × (l.count ≤ l.target-index)
