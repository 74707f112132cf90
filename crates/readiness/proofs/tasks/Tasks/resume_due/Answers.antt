use Rattle.std.proofs.Common.{ℕ, subst}
use Rattle.base_types.specs.declared.direction.Dir.{Dir}
use Rattle.readiness.specs.Agenda.{due_step}
use Rattle.readiness.specs.Resuming.{MakesStep}
use Rattle.readiness.proofs.ResumingLemmas.{one_more_made_at, all_are_made_at}
use Rattle.readiness.proofs.tasks.Tasks.resume_due.Goals as goal

pub loop-timer-preserved : goal.loop-timer-preserved
loop-timer-preserved g c = one_more_made_at (λ (timer : ℕ × Dir). due_step timer.0 timer.1 c.args.now)
    g.H.Host.awaited (g.H.Host.tells c.args.host.now) (g.H.Host.tells c.loop-timer.host) (g.H.Host.tells c.resume.new.host)
    c.args.self.now c.loop-timer.self c.resume.new.self c.args.due.now c.loop-timer.timer-index _ c.loop-timer-test.true
    c.loop-timer.invariant (subst (λ made. MakesStep g.H.Host.awaited (g.H.Host.tells c.loop-timer.host)
    (g.H.Host.tells c.resume.new.host) c.loop-timer.self c.resume.new.self made) c.step_of_timer.ensures c.resume.ensures.made)

pub returns : goal.returns
returns g c = all_are_made_at (λ (timer : ℕ × Dir). due_step timer.0 timer.1 c.args.now)
    g.H.Host.awaited (g.H.Host.tells c.args.host.now) (g.H.Host.tells c.loop-timer.host) c.args.self.now c.loop-timer.self
    c.args.due.now c.loop-timer.timer-index c.loop-timer-test.false c.loop-timer.invariant
