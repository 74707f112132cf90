use Rattle.lockword.specs.Marks.{SameButDraining, SameDeeds, HeardOn}
use Rattle.lockword.specs.Places.{seat_place}
use Rattle.fdmutex.proofs.close.take_over.Given as goal

abbrev pub invariant-loop : goal.invariant-loop
invariant-loop g l = SameButDraining (seat_place l.initial.seat) (seat_place l.seat)
    × SameDeeds (seat_place l.initial.seat) (seat_place l.seat)
    × HeardOn (seat_place l.initial.seat) (seat_place l.seat)
