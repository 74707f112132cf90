-- What a call did: its operations in order, how they were answered, and the word that it tells.
use Rattle.std.specs.Prelude.{◌≡◌, [], ◌∷◌, ◌++◌, ◌⊎◌, ℕ, List, Result, Ok, Err}
use Rattle.std.specs.List.{repeat}
use Rattle.base_types.specs.declared.direction.Dir.{Dir}
use Rattle.lockword_core.specs.declared.stake.Op.{Op}
use Rattle.lockword_core.specs.declared.stake.Op.TheVariants as op
use Rattle.lockword_core.specs.declared.stake.Answer.{Answer}
use Rattle.lockword_core.specs.declared.stake.Answer.TheVariants as answer
use Rattle.lockword.specs.declared.local_view.LocalView.{LocalView}
use Rattle.lockword.specs.declared.holders.Seat.{Seat}
use Rattle.lockword.specs.declared.holders.Freed.{Freed}
use Rattle.lockword.specs.declared.holders.Freed.TheVariants as freed
use Rattle.lockword.specs.History.{IsMade, GoesOn}
use Rattle.lockword.specs.Marks.{Place, Did, SameDeeds, Heard, deeds, heard_by}
use Rattle.lockword.specs.Places.{seat_place, last_place}
use Rattle.fdmutex.specs.declared.answers.Refusal.{Refusal}
use Rattle.fdmutex.specs.declared.answers.Refusal.TheVariants as refusal

-- the operations of so many waits for a lock: each a place in its queue, and then a signal
abbrev pub waits : Dir → ℕ → List Op
waits d n = repeat n (op.Lock d ∷ op.Wake d ∷ [])

module _ {R W : Type 0} where
  -- the seat waited for a lock, and did nothing else
  pub record OnlyWaited (d : Dir) (p q : Place R W) : Type 0 where
    pub times : ℕ
    pub did : deeds q ≡ deeds p ++ waits d times

  -- the seat waited for a lock, if at all, and then took it
  pub record TookLock (d : Dir) (p q : Place R W) : Type 0 where
    pub times : ℕ
    -- the seat's view once it had waited
    pub view : LocalView
    pub waited : view.did ≡ deeds p ++ waits d times
    pub goes_on : GoesOn (heard_by p) view.heard
    pub made : IsMade (op.Lock d) answer.Held view q.me.0

  -- a lock was given back, and then the signal that was owed
  pub record GaveBackAndSignalled (d : Dir) (p q : Place R W) : Type 0 where
    -- the seat's view between the two
    pub view : LocalView
    pub gave_back : IsMade (op.Unlock d) answer.Owes p.me.0 view
    pub signalled : IsMade (op.Signal d) answer.Signalled view q.me.0

  -- something was taken by this one operation, or the seat comes back and made none
  abbrev pub DidOrNothing : {T : Type 0} → Op → Answer → (T → Place R W) → Seat R W
      → Result T (Seat R W × Refusal) → Type 0
  DidOrNothing o a place before (Ok taken) = Did o a (seat_place before) (place taken)
  DidOrNothing o a place before (Err e) = SameDeeds (seat_place before) (seat_place e.0)

  -- the lock was taken, or the seat comes back, after waits if any
  abbrev pub TookOrWaited : {T : Type 0} → Dir → (T → Place R W) → Seat R W
      → Result T (Seat R W × Refusal) → Type 0
  TookOrWaited d place before (Ok taken) = TookLock d (seat_place before) (place taken)
  TookOrWaited d place before (Err e) = OnlyWaited d (seat_place before) (seat_place e.0)

  -- a lock was given back, by one operation or with the signal that was owed
  abbrev pub GaveBack : Dir → Place R W → Freed R W → Type 0
  GaveBack d p (freed.Kept s) =
      Did (op.Unlock d) answer.Kept p (seat_place s) ⊎ GaveBackAndSignalled d p (seat_place s)
  GaveBack d p (freed.Last l) = Did (op.Unlock d) answer.Last p (last_place l)

  -- a word that is told is the one that the list replays to which the seat has now heard
  abbrev pub HeardWord : Seat R W → Seat R W → Refusal → Type 0
  HeardWord before after refusal.Closed = Unit {0}
  HeardWord before after (refusal.TooMany w) = Heard w (seat_place before) (seat_place after)
  HeardWord before after refusal.Draining = Unit {0}

  -- the same of a call that may be refused
  abbrev pub TellsHeardWord : {T : Type 0} → Seat R W → Result T (Seat R W × Refusal) → Type 0
  TellsHeardWord before (Ok taken) = Unit {0}
  TellsHeardWord before (Err e) = HeardWord before e.0 e.1
