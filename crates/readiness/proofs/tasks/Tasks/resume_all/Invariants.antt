use Rattle.readiness.proofs.TurnLemmas.{AllSoFar}
use Rattle.readiness.proofs.tasks.Tasks.resume_all.Given as goal

abbrev pub invariant-loop-place : goal.invariant-loop-place
invariant-loop-place g l = AllSoFar g.H.Host.awaited (g.H.Host.tells l.initial.host) (g.H.Host.tells l.host) l.why
    l.initial.self l.self l.place
