use Rattle.lockword.specs.Marks.{SameMarks, HeardOn}
use Rattle.fdmutex.specs.Did.{OnlyWaited}
use Rattle.fdmutex.specs.Deeds.{MadeNoEnd}
use Rattle.lockword.specs.Places.{seat_place}
use Rattle.fdmutex.proofs.locks.lock.Given as goal

abbrev pub invariant-loop : goal.invariant-loop
invariant-loop g l = SameMarks (seat_place l.initial.seat) (seat_place l.seat)
    × MadeNoEnd (seat_place l.initial.seat) (seat_place l.seat)
    × HeardOn (seat_place l.initial.seat) (seat_place l.seat)
    × OnlyWaited g.D.Direction.dir (seat_place l.initial.seat) (seat_place l.seat)
