use Rattle.std.proofs.Common.{refl}
use Rattle.relay_conn.specs.Flow.{IsTaken, IsStopped}
use Rattle.relay_conn.proofs.flow.Flow.head.Goals as goal

-- a part was taken, or all
pub returns-in-Ok-clause-heads : goal.returns-in-Ok-clause-heads
returns-in-Ok-clause-heads g c = IsTaken _ c.in-Ok.ensures.passing c.has_unwritten-self.ensures

-- none was
pub returns-in-Err-clause-heads : goal.returns-in-Err-clause-heads
returns-in-Err-clause-heads g c = IsStopped c.in-Err.ensures.stopped c.in-Err.ensures.kept refl
