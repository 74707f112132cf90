use Rattle.std.proofs.Common.{◌≡◌, true}
use Rattle.lockword.specs.Marks.{saw_closed, word_of}
use Rattle.lockword.specs.Places.{seat_place}
use Rattle.bench_calls.proofs.lock_word.rounds.reads.Given as goal

-- the seat is still the word's, and one that began on a closed word has made no round
abbrev pub invariant-loop-made : goal.invariant-loop-made
invariant-loop-made g l = (word_of (seat_place l.seat) ≡ word_of (seat_place l.initial.seat))
    × (saw_closed (seat_place l.initial.seat) ≡ true
    → (l.made ≡ 0) × (saw_closed (seat_place l.seat) ≡ true))
