use Rattle.std.proofs.Common.{vec_len}
use Rattle.relay_shared.proofs.bound_path.BoundPaths.end.Given as goal

abbrev pub decreases-loop-path : goal.decreases-loop-path
decreases-loop-path g l = vec_len l.left
