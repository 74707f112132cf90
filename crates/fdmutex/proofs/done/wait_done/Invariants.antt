use Rattle.std.proofs.Common.{◌≡◌}
use Rattle.lockword.specs.Marks.{word_of, saw_closed, saw_draining, SameDeeds, SameHeard}
use Rattle.lockword.specs.Places.{seat_place}
use Rattle.fdmutex.proofs.done.wait_done.Given as goal

abbrev pub invariant-loop : goal.invariant-loop
invariant-loop g l = (word_of (seat_place l.seat) ≡ word_of (seat_place l.initial.seat))
    × (saw_closed (seat_place l.seat) ≡ saw_closed (seat_place l.initial.seat))
    × (saw_draining (seat_place l.seat) ≡ saw_draining (seat_place l.initial.seat))
    × SameDeeds (seat_place l.initial.seat) (seat_place l.seat)
    × SameHeard (seat_place l.initial.seat) (seat_place l.seat)
