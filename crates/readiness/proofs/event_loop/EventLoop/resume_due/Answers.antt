use Rattle.std.proofs.Common.{subst}
use Rattle.readiness.specs.Agenda.{due_steps}
use Rattle.readiness.specs.EventLoop.{tasks_of}
use Rattle.readiness.specs.Resuming.{MakesSteps}
use Rattle.readiness.proofs.event_loop.EventLoop.resume_due.Goals as goal

pub returns-clause-made : goal.returns-clause-made
returns-clause-made g c = record {
  due = c.due-due.result.list.items;
  made = subst (λ moment. MakesSteps g.H.Host.awaited (g.H.Host.tells c.args.host.now) (g.H.Host.tells c.resume_taken.new.host)
      (tasks_of c.args.self.now) c.resume_taken.new.self (due_steps moment c.due-due.result.list.items)) c.due-due.ensures.moment
      c.resume_taken.ensures.made;
}
