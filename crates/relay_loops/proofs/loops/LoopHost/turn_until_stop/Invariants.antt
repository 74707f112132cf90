use Rattle.readiness.specs.EventLoop.{tasks_of}
use Rattle.relay_loops.specs.Turns.{StayArmed}
use Rattle.relay_loops.proofs.loops.LoopHost.turn_until_stop.Given as goal

-- the turns so far left each task its alarm
abbrev pub invariant-loop : goal.invariant-loop
invariant-loop g l = StayArmed (tasks_of l.fn.tasks) (tasks_of l.tasks)
