use Rattle.std.proofs.Common.{length}
use Rattle.std.specs.Prelude.{map}
use Rattle.target_pick.specs.Pick.{loads_of}
use Rattle.target_pick.specs.Seen.{share_of}
use Rattle.target_pick.proofs.Loads.{Kept}
use Rattle.target_pick.proofs.least.least.Given as goal

abbrev pub invariant-loop-at : goal.invariant-loop-at
invariant-loop-at l = Kept (map (share_of l.backups) l.targets) (loads_of l.targets) (length l.targets) l.at l.best
