use Rattle.lockword.specs.Marks.{SameMarks, SameDeeds, HeardOn}
use Rattle.lockword.specs.Places.{seat_place}
use Rattle.fdmutex.proofs.reference.incref.Given as goal

abbrev pub invariant-loop : goal.invariant-loop
invariant-loop g l = SameMarks (seat_place l.initial.seat) (seat_place l.seat)
    × SameDeeds (seat_place l.initial.seat) (seat_place l.seat)
    × HeardOn (seat_place l.initial.seat) (seat_place l.seat)
