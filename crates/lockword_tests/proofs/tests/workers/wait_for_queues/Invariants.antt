use Rattle.std.proofs.Common.{◌≡◌}
use Rattle.lockword.specs.Marks.{word_of}
use Rattle.lockword.specs.Places.{seat_place}
use Rattle.lockword_tests.proofs.tests.workers.wait_for_queues.Given as goal

abbrev pub invariant-loop : goal.invariant-loop
invariant-loop g l = word_of (seat_place l.seat) ≡ word_of (seat_place l.initial.seat)
