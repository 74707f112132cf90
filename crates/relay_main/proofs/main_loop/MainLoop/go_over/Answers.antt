use Rattle.std.proofs.Common.{List, subst}
use Rattle.readiness.specs.EventLoop.{tasks_of}
use Rattle.relay_main.specs.Followed.{follow_each}
use Rattle.relay_main.specs.ListenersEnd.{AreEnded}
use Rattle.relay_main.specs.declared.rule_listeners.Listening.{Listening}
use Rattle.relay_main.proofs.main_loop.MainLoop.go_over.Goals as goal

-- listeners that stay follow first, and the others end after that
pub returns-clause-closed : goal.returns-clause-closed
returns-clause-closed g c =
    subst (λ tasks. AreEnded c.args.prepared.plan.listeners.close.items tasks (tasks_of c.end_listeners.new.self.tasks))
    c.follow_accounts.ensures.follow
    (subst
    (λ (close : List Listening).
    AreEnded close (tasks_of c.follow_accounts.new.self.tasks) (tasks_of c.end_listeners.new.self.tasks))
    c.as_slice-2.ensures.value c.end_listeners.ensures.closed)
