use Rattle.std.proofs.Common.{subst}
use Rattle.readiness.specs.Agenda.{due_steps}
use Rattle.readiness.specs.Resuming.{MakesSteps}
use Rattle.readiness.proofs.tasks.Tasks.resume_taken.Goals as goal

pub returns-clause-made : goal.returns-clause-made
returns-clause-made g c = subst (λ list. MakesSteps g.H.Host.awaited (g.H.Host.tells c.args.host.now)
    (g.H.Host.tells c.resume_due.new.host) c.args.self.now c.resume_due.new.self (due_steps c.args.timers.moment list))
    c.as_slice.ensures.value c.resume_due.ensures
