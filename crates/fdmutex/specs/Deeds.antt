-- Which of the three that happen once, the drain, the close and the destroy, a seat has made.
use Rattle.std.specs.Prelude.{◌≡◌, ◌+◌, ℕ, Result, Ok, Err, count_by}
use Rattle.lockword_core.specs.OperationCounts.{is_close, is_destroy, is_drain}
use Rattle.lockword.specs.declared.holders.Seat.{Seat}
use Rattle.lockword.specs.declared.holders.Freed.{Freed}
use Rattle.lockword.specs.declared.holders.Freed.TheVariants as freed
use Rattle.lockword.specs.Marks.{Place, deeds}
use Rattle.lockword.specs.Places.{seat_place, last_place}
use Rattle.fdmutex.specs.declared.answers.Refusal.{Refusal}

module _ {R W : Type 0} where
  -- how many closes the seat has made
  abbrev pub closes : Place R W → ℕ
  closes p = count_by is_close (deeds p)

  -- how many destroys the seat has made
  abbrev pub destroys : Place R W → ℕ
  destroys p = count_by is_destroy (deeds p)

  -- how many drains the seat has made
  abbrev pub drains : Place R W → ℕ
  drains p = count_by is_drain (deeds p)

  -- the seat has made none of the three since
  abbrev pub MadeNoEnd : Place R W → Place R W → Type 0
  MadeNoEnd p q = (closes q ≡ closes p) × (destroys q ≡ destroys p) × (drains q ≡ drains p)

  -- the seat has made the close since, and no destroy and no drain
  abbrev pub MadeTheClose : Place R W → Place R W → Type 0
  MadeTheClose p q = (closes q ≡ closes p + 1) × (destroys q ≡ destroys p) × (drains q ≡ drains p)

  -- the seat has made the drain since, and no close and no destroy
  abbrev pub MadeTheDrain : Place R W → Place R W → Type 0
  MadeTheDrain p q = (closes q ≡ closes p) × (destroys q ≡ destroys p) × (drains q ≡ drains p + 1)

  -- whether something was taken or the seat comes back, it has made none of the three since
  abbrev pub TakesWithoutEnd : {T : Type 0} → (T → Place R W) → Seat R W
      → Result T (Seat R W × Refusal) → Type 0
  TakesWithoutEnd place before (Ok taken) = MadeNoEnd (seat_place before) (place taken)
  TakesWithoutEnd place before (Err e) = MadeNoEnd (seat_place before) (seat_place e.0)

  -- who gave something back has made none of the three since
  abbrev pub LeavesWithoutEnd : Place R W → Freed R W → Type 0
  LeavesWithoutEnd p (freed.Kept s) = MadeNoEnd p (seat_place s)
  LeavesWithoutEnd p (freed.Last l) = MadeNoEnd p (last_place l)
