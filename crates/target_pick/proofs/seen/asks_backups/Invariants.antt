use Rattle.std.proofs.Common.{◌≡◌, drop}
use Rattle.target_pick.specs.Seen.{asks_backups}
use Rattle.target_pick.proofs.seen.asks_backups.Given as goal

abbrev pub invariant-loop-target : goal.invariant-loop-target
invariant-loop-target l = asks_backups l.targets ≡ asks_backups (drop l.target-index l.targets)
