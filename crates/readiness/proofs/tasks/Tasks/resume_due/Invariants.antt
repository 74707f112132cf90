use Rattle.std.proofs.Common.{ℕ, map, drop}
use Rattle.base_types.specs.declared.direction.Dir.{Dir}
use Rattle.readiness.specs.Agenda.{due_step}
use Rattle.readiness.proofs.ResumingLemmas.{AreMadeSoFar}
use Rattle.readiness.proofs.tasks.Tasks.resume_due.Given as goal

abbrev pub invariant-loop-timer : goal.invariant-loop-timer
invariant-loop-timer g l = AreMadeSoFar g.H.Host.awaited (g.H.Host.tells l.initial.host) (g.H.Host.tells l.host) l.initial.self l.self
    (map (λ (timer : ℕ × Dir). due_step timer.0 timer.1 l.now) l.due) (map (λ (timer : ℕ × Dir). due_step timer.0 timer.1 l.now) (drop l.timer-index l.due))
