use Rattle.std.proofs.Common.{◌≡◌, ◌+◌, ◌*◌, ◌≤◌, drop}
use Rattle.std.specs.Prelude.{map}
use Rattle.target_pick.specs.Seen.{share_of, total}
use Rattle.target_pick.proofs.seen.total_share.Given as goal

abbrev pub invariant-loop-target : goal.invariant-loop-target
invariant-loop-target l =
    (l.total + total (map (share_of l.backups) (drop l.target-index l.targets)) ≡ total (map (share_of l.backups) l.targets))
    × (l.total ≤ 65536 * l.target-index)
