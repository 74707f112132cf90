use Rattle.std.proofs.Common.{map, drop}
use Rattle.readiness.specs.Agenda.{event_step}
use Rattle.readiness.proofs.ResumingLemmas.{AreMadeSoFar}
use Rattle.readiness.proofs.tasks.Tasks.resume_ready.Given as goal

abbrev pub invariant-loop-event : goal.invariant-loop-event
invariant-loop-event g l = AreMadeSoFar g.H.Host.awaited (g.H.Host.tells l.initial.host) (g.H.Host.tells l.host) l.initial.self l.self
    (map event_step l.events) (map event_step (drop l.event-index l.events))
