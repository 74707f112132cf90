-- What the calls that wait answer.
use Rattle.std.specs.Prelude.{◌≡◌, false, Result, Ok, Err}
use Rattle.base_types.specs.declared.direction.Dir.{Dir}
use Rattle.lockword_core.specs.declared.word.Word.{Word}
use Rattle.lockword.specs.declared.holders.LockWord.{LockWord}
use Rattle.lockword.specs.declared.holders.Seat.{Seat}
use Rattle.lockword.specs.declared.holders.Closing.{Closing}
use Rattle.lockword.specs.declared.holders.Close.{Close}
use Rattle.lockword.specs.declared.holders.Close.TheVariants as close
use Rattle.lockword.specs.declared.holders.Freed.{Freed}
use Rattle.lockword.specs.declared.holders.Freed.TheVariants as freed
use Rattle.lockword.specs.Marks.{Place, IsFullWay, SameMarks, SameButDraining, NowClosed}
use Rattle.lockword.specs.Marks.{NowDraining, IsOpen, IsUndrained, Showed, saw_draining}
use Rattle.lockword.specs.Places.{seat_place, closing_place, last_place}
use Rattle.lockword.specs.TransitionOutcomes.{IsSeatOf, IsAtLimit, HasNotTaken}
use Rattle.fdmutex.specs.declared.answers.Refusal.{Refusal}
use Rattle.fdmutex.specs.declared.answers.Refusal.TheVariants as refusal

-- a word without a flag that has no room for one more reference
abbrev pub IsReferenceFull : Word → Type 0
IsReferenceFull w = IsAtLimit w × (w.drain ≡ false)

-- a word without a flag that has no room for one more who asks for this lock
abbrev pub IsLockFull : Dir → Word → Type 0
IsLockFull d w = (w.closed ≡ false) × (w.drain ≡ false) × IsFullWay d w

-- no word is at the limit of a call that has none
abbrev pub IsNever : Word → Type 0
IsNever w = ⊥

module _ {R W : Type 0} where
  -- the seat has seen the word neither closed nor draining
  abbrev pub IsFresh : Seat R W → Type 0
  IsFresh s = IsOpen (seat_place s) × IsUndrained (seat_place s)

  -- refused as closed or as draining the seat has seen it; refused at a limit it has seen neither,
  -- and the word, which was the word at some moment, shows the limit
  abbrev pub IsRefused : (Word → Type 0) → Seat R W → Seat R W → Refusal → Type 0
  IsRefused limit before after refusal.Closed = NowClosed (seat_place before) (seat_place after)
  IsRefused limit before after (refusal.TooMany w) =
      SameMarks (seat_place before) (seat_place after) × IsFresh before × limit w
      × Showed w (seat_place after)
  IsRefused limit before after refusal.Draining =
      NowDraining (seat_place before) (seat_place after) × IsOpen (seat_place before)

  -- what is taken is had by a seat that has seen the word neither closed nor draining, and its
  -- marks come of the seat's as told; else the seat comes back, refused as closed, as draining or
  -- at the limit
  abbrev pub IsTakenOrRefused : {T : Type 0} → (Place R W → Place R W → Type 0) → (T → Place R W)
      → (Word → Type 0) → Seat R W → Result T (Seat R W × Refusal) → Type 0
  IsTakenOrRefused marks place limit before (Ok taken) =
      marks (seat_place before) (place taken) × IsFresh before
  IsTakenOrRefused marks place limit before (Err e) = IsRefused limit before e.0 e.1

  -- no drain refuses a close: refused as closed the seat has seen it; refused at the limit of
  -- references it has not, and the word shows the limit, and whether the seat has seen it draining
  abbrev pub IsCloseRefused : Seat R W → Seat R W → Refusal → Type 0
  IsCloseRefused before after refusal.Closed = NowClosed (seat_place before) (seat_place after)
  IsCloseRefused before after (refusal.TooMany w) =
      SameButDraining (seat_place before) (seat_place after) × IsOpen (seat_place before)
      × (saw_draining (seat_place after) ≡ w.drain) × IsAtLimit w × Showed w (seat_place after)
  IsCloseRefused before after refusal.Draining = ⊥

  -- who closes had not seen the word closed, and now has; else the seat comes back
  abbrev pub IsClosingOrRefused : Seat R W → Result (Closing R W) (Seat R W × Refusal) → Type 0
  IsClosingOrRefused before (Ok closing) =
      NowClosed (seat_place before) (closing_place closing) × IsOpen (seat_place before)
  IsClosingOrRefused before (Err e) = IsCloseRefused before e.0 e.1

  -- what a try to close is answered, or the seat that tries again: that of one that was lost
  abbrev pub close_answer : Close R W → Result (Result (Closing R W) (Seat R W × Refusal)) (Seat R W)
  close_answer (close.Closing closing) = Ok (Ok closing)
  close_answer (close.Closed back) = Ok (Err (back, refusal.Closed))
  close_answer (close.TooMany back found) = Ok (Err (back, refusal.TooMany found))
  close_answer (close.Lost back) = Err back

  -- a seat of this word is left, or the duty to destroy, with the halves still to take
  abbrev pub IsFreedOf : LockWord R W → Freed R W → Type 0
  IsFreedOf w (freed.Kept s) = IsSeatOf w (seat_place s)
  IsFreedOf w (freed.Last l) = IsSeatOf w (last_place l) × HasNotTaken (last_place l)
