use Rattle.std.proofs.Common.{subst}
use Rattle.readiness.specs.Agenda.{event_step}
use Rattle.readiness.specs.Resuming.{MakesStep}
use Rattle.readiness.proofs.ResumingLemmas.{one_more_made_at, all_are_made_at}
use Rattle.readiness.proofs.tasks.Tasks.resume_ready.Goals as goal

pub loop-event-preserved : goal.loop-event-preserved
loop-event-preserved g c = one_more_made_at event_step
    g.H.Host.awaited (g.H.Host.tells c.args.host.now) (g.H.Host.tells c.loop-event.host) (g.H.Host.tells c.resume.new.host)
    c.args.self.now c.loop-event.self c.resume.new.self c.args.events.now c.loop-event.event-index _ c.loop-event-test.true
    c.loop-event.invariant (subst (λ made. MakesStep g.H.Host.awaited (g.H.Host.tells c.loop-event.host)
    (g.H.Host.tells c.resume.new.host) c.loop-event.self c.resume.new.self made) c.step_of_event.ensures c.resume.ensures.made)

pub returns : goal.returns
returns g c = all_are_made_at event_step
    g.H.Host.awaited (g.H.Host.tells c.args.host.now) (g.H.Host.tells c.loop-event.host) c.args.self.now c.loop-event.self
    c.args.events.now c.loop-event.event-index c.loop-event-test.false c.loop-event.invariant
