use Rattle.std.proofs.Common.{◌≡◌, take}
use Rattle.readiness.specs.EventLoop.{tasks_of}
use Rattle.relay_main.specs.RuleListeners.{standing_in}
use Rattle.relay_main.proofs.main_loop.MainLoop.standing.Given as goal

abbrev pub invariant-loop-one : goal.invariant-loop-one
invariant-loop-one g l =
    l.standing.items ≡ standing_in (tasks_of l.self.tasks) (take l.one-index l.self.listening.items)
