use Rattle.lockword.specs.Marks.{Later, SameDeeds, HeardOn}
use Rattle.lockword.specs.Lent.{SameHalf}
use Rattle.lockword.specs.Places.{lock_place}
use Rattle.fdmutex.proofs.locks.unlock.Given as goal

abbrev pub invariant-loop : goal.invariant-loop
invariant-loop g l = Later (lock_place l.initial.held) (lock_place l.held)
    × SameDeeds (lock_place l.initial.held) (lock_place l.held)
    × HeardOn (lock_place l.initial.held) (lock_place l.held)
    × SameHalf l.initial.held l.held
