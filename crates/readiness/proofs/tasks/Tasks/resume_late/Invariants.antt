use Rattle.std.proofs.Common.{◌-◌, length}
use Rattle.readiness.proofs.LateLemmas.{LateSoFar}
use Rattle.readiness.proofs.tasks.Tasks.resume_late.Given as goal

abbrev pub invariant-loop-from : goal.invariant-loop-from
invariant-loop-from g l = LateSoFar g.H.Host.awaited (g.H.Host.tells l.initial.host) (g.H.Host.tells l.host) l.now
    l.initial.self l.self l.from

abbrev pub decreases-loop-from : goal.decreases-loop-from
decreases-loop-from g l = length l.initial.self.alarms - l.from
