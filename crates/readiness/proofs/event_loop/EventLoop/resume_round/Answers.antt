use Rattle.std.proofs.Common.{map, ◌++◌, subst}
use Rattle.readiness.specs.Agenda.{event_step, step_for}
use Rattle.readiness.specs.EventLoop.{tasks_of, events_in, told_in, round_in}
use Rattle.readiness.specs.Resuming.{MakesSteps}
use Rattle.readiness.specs.declared.agenda.Why.TheVariants.{Named, Again}
use Rattle.readiness.proofs.ResumingLemmas.{steps_then}
use Rattle.readiness.proofs.event_loop.EventLoop.resume_round.Goals as goal

pub returns-clause-made : goal.returns-clause-made
returns-clause-made g c =
    steps_then g.H.Host.awaited (g.H.Host.tells c.args.host.now) (g.H.Host.tells c.resume_ready.new.host)
    (g.H.Host.tells c.resume_each-2.new.host) (tasks_of c.args.self.now) c.resume_ready.new.self
    c.resume_each-2.new.self (map event_step (events_in c.args.self.now))
    (map (step_for Named) (told_in c.args.self.now) ++ map (step_for Again) (round_in c.args.self.now))
    (subst (λ heard. MakesSteps g.H.Host.awaited (g.H.Host.tells c.args.host.now) (g.H.Host.tells c.resume_ready.new.host)
    (tasks_of c.args.self.now) c.resume_ready.new.self (map event_step heard)) c.events.ensures.own
    c.resume_ready.ensures)
    (steps_then g.H.Host.awaited (g.H.Host.tells c.resume_ready.new.host) (g.H.Host.tells c.resume_each.new.host)
    (g.H.Host.tells c.resume_each-2.new.host) c.resume_ready.new.self c.resume_each.new.self
    c.resume_each-2.new.self (map (step_for Named) (told_in c.args.self.now))
    (map (step_for Again) (round_in c.args.self.now))
    (subst (λ tokens. MakesSteps g.H.Host.awaited (g.H.Host.tells c.resume_ready.new.host) (g.H.Host.tells c.resume_each.new.host)
    c.resume_ready.new.self c.resume_each.new.self (map (step_for Named) tokens)) c.as_slice.ensures.value
    c.resume_each.ensures)
    (subst (λ tokens. MakesSteps g.H.Host.awaited (g.H.Host.tells c.resume_each.new.host) (g.H.Host.tells c.resume_each-2.new.host)
    c.resume_each.new.self c.resume_each-2.new.self (map (step_for Again) tokens)) c.as_slice-2.ensures.value
    c.resume_each-2.ensures))
