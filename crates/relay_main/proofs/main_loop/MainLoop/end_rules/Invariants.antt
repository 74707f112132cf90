use Rattle.std.proofs.Common.{◌≡◌}
use Rattle.readiness.specs.EventLoop.{tasks_of}
use Rattle.relay_main.specs.ListenersEnd.{AreEndedOf}
use Rattle.relay_main.proofs.main_loop.MainLoop.end_rules.Given as goal

abbrev pub invariant-loop-one : goal.invariant-loop-one
invariant-loop-one g l = record {
  ended : AreEndedOf l.listening l.one-index (tasks_of l.initial.self.tasks) (tasks_of l.self.tasks);
  kept : l.self.listening ≡ l.initial.self.listening;
  paths : l.self.paths ≡ l.initial.self.paths;
}
