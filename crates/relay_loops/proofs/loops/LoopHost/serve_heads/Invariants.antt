use Rattle.std.proofs.Common.{length}
use Rattle.readiness.specs.EventLoop.{tasks_of}
use Rattle.relay_loops.specs.Turns.{StayArmed}
use Rattle.relay_loops.proofs.loops.LoopHost.serve_heads.Given as goal

-- those that were served so far left each task its alarm
abbrev pub invariant-loop-token : goal.invariant-loop-token
invariant-loop-token g l = StayArmed (tasks_of l.fn.tasks) (tasks_of l.tasks)

abbrev pub decreases-loop-token : goal.decreases-loop-token
decreases-loop-token g l = length l.heads.items
