use Rattle.std.proofs.Common.{map, drop}
use Rattle.readiness.specs.Agenda.{step_for}
use Rattle.readiness.proofs.ResumingLemmas.{AreMadeSoFar}
use Rattle.readiness.proofs.tasks.Tasks.resume_each.Given as goal

abbrev pub invariant-loop-token : goal.invariant-loop-token
invariant-loop-token g l = AreMadeSoFar g.H.Host.awaited (g.H.Host.tells l.initial.host) (g.H.Host.tells l.host) l.initial.self l.self
    (map (step_for l.why) l.tokens) (map (step_for l.why) (drop l.token-index l.tokens))
