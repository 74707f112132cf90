-- What a seat has heard goes on, over a call, from what it had heard.
use Rattle.std.specs.Prelude.{Result, Ok, Err}
use Rattle.lockword.specs.declared.holders.Seat.{Seat}
use Rattle.lockword.specs.declared.holders.Freed.{Freed}
use Rattle.lockword.specs.declared.holders.Freed.TheVariants as freed
use Rattle.lockword.specs.Marks.{Place, HeardOn}
use Rattle.lockword.specs.Places.{seat_place, last_place}
use Rattle.fdmutex.specs.declared.answers.Refusal.{Refusal}

module _ {R W : Type 0} where
  -- whether something was taken or the seat comes back, what it has heard goes on
  abbrev pub TakesHearing : {T : Type 0} → (T → Place R W) → Seat R W
      → Result T (Seat R W × Refusal) → Type 0
  TakesHearing place before (Ok taken) = HeardOn (seat_place before) (place taken)
  TakesHearing place before (Err e) = HeardOn (seat_place before) (seat_place e.0)

  -- what is left of who gave something back has heard what goes on
  abbrev pub LeavesHearing : Place R W → Freed R W → Type 0
  LeavesHearing p (freed.Kept s) = HeardOn p (seat_place s)
  LeavesHearing p (freed.Last l) = HeardOn p (last_place l)
