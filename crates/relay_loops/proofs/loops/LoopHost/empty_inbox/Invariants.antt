use Rattle.std.proofs.Common.{◌+◌, length}
use Rattle.readiness.specs.EventLoop.{tasks_of}
use Rattle.relay_shared.specs.Inbox.{sockets_in, requests_in}
use Rattle.relay_loops.specs.Turns.{StayArmed}
use Rattle.relay_loops.proofs.loops.LoopHost.empty_inbox.Given as goal

-- what has been taken out so far left each task its alarm
abbrev pub invariant-loop-request : goal.invariant-loop-request
invariant-loop-request g l = StayArmed (tasks_of l.fn.tasks) (tasks_of l.tasks)

abbrev pub decreases-loop-request : goal.decreases-loop-request
decreases-loop-request g l = length (requests_in l.taken.inbox) + length (sockets_in l.taken.inbox)
