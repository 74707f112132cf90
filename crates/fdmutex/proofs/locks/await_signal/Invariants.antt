use Rattle.lockword.specs.Marks.{SameMarks, SameDeeds, HeardOn}
use Rattle.lockword.specs.Places.{wait_place}
use Rattle.fdmutex.proofs.locks.await_signal.Given as goal

abbrev pub invariant-loop : goal.invariant-loop
invariant-loop g l = SameMarks (wait_place l.initial.wait) (wait_place l.wait)
    × SameDeeds (wait_place l.initial.wait) (wait_place l.wait)
    × HeardOn (wait_place l.initial.wait) (wait_place l.wait)
