use Rattle.std.proofs.Common.{◌≡◌}
use Rattle.readiness.specs.EventLoop.{tasks_of}
use Rattle.relay_main.specs.Followed.{follow_each}
use Rattle.relay_main.proofs.main_loop.MainLoop.follow_accounts.Given as goal

-- what is left to follow comes to what all come to
abbrev pub invariant-loop-one : goal.invariant-loop-one
invariant-loop-one g l = record {
  follow : follow_each l.one-iterator.rest.items (tasks_of l.self.tasks)
      ≡ follow_each l.fn.all.items (tasks_of l.fn.self.tasks);
  listening : l.self.listening ≡ l.fn.self.listening;
  paths : l.self.paths ≡ l.fn.self.paths;
}
