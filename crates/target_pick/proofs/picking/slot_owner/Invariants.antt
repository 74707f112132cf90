use Rattle.std.proofs.Common.{◌≡◌, ◌+◌, ◌<◌, drop}
use Rattle.std.specs.Prelude.{map}
use Rattle.target_pick.specs.Pick.{owner}
use Rattle.target_pick.specs.Seen.{share_of, total}
use Rattle.target_pick.proofs.picking.slot_owner.Given as goal

abbrev pub invariant-loop-at : goal.invariant-loop-at
invariant-loop-at l =
    (l.at + owner (map (share_of l.backups) (drop l.at l.targets)) l.left ≡ owner (map (share_of l.backups) l.targets) l.slot)
    × (l.left < total (map (share_of l.backups) (drop l.at l.targets)))
