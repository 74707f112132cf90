use Rattle.std.proofs.Common.{◌≡◌}
use Rattle.lockword.specs.Marks.{word_of}
use Rattle.lockword.specs.Places.{seat_place}
use Rattle.lockword_tests.proofs.tests.rounds.fn.all_work.scope.Given as goal

abbrev pub invariant-loop-role : goal.invariant-loop-role
invariant-loop-role g l = word_of (seat_place l.seat) ≡ word_of (seat_place l.initial.seat)
