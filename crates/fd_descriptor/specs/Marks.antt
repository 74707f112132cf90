-- What has been seen of a descriptor's drain and end, by the seat of its lock word that a handle
-- holds.
use Rattle.std.specs.Prelude.{◌≡◌, ℕ, true, false, Option, Some, None, List, [], ◌∷◌}
use Rattle.lockword_core.specs.declared.stake.Op.{Op}
use Rattle.lockword_core.specs.declared.stake.Op.TheVariants as op
use Rattle.lockword_core.specs.declared.stake.Event.{Event}
use Rattle.lockword.specs.declared.holders.Seat.{Seat}
use Rattle.lockword.specs.declared.holders.LockWord.{LockWord}
use Rattle.lockword.specs.Marks.{WordId, word_of, deeds, heard_by, marks_of as marks_at}
use Rattle.lockword.specs.Places.{seat_place, last_place}
use Rattle.lockword.specs.TransitionOutcomes.{word_id, Looks}
use Rattle.lockword_core.specs.declared.word.Word.{Word}
use Rattle.lockword.specs.declared.holders.Freed.{Freed}
use Rattle.lockword.specs.declared.holders.Freed.TheVariants as left
use Rattle.fdmutex.specs.Deeds.{closes, destroys, drains}
pub use Rattle.lockword.specs.declared.local_view.Marks.{Marks}

-- what was seen stays seen
abbrev pub KeepsMarks : Marks → Marks → Type 0
KeepsMarks before after =
    (before.closed ≡ true → after.closed ≡ true) × (before.done ≡ true → after.done ≡ true)
    × (before.draining ≡ true → after.draining ≡ true)

-- the descriptor was seen draining, and nothing else was seen since
abbrev pub NowDraining : Marks → Marks → Type 0
NowDraining before after =
    (after.draining ≡ true) × (after.closed ≡ before.closed) × (after.done ≡ before.done)

-- nothing was seen since, but perhaps that the descriptor is draining
abbrev pub SameButDraining : Marks → Marks → Type 0
SameButDraining before after =
    (before.draining ≡ true → after.draining ≡ true) × (after.closed ≡ before.closed)
    × (after.done ≡ before.done)

-- the descriptor was seen closed, and its halves destroyed
abbrev pub SawTheEnd : Marks → Type 0
SawTheEnd marks = (marks.closed ≡ true) × (marks.done ≡ true)

module _ {R W : Type 0} where
  -- what the seat that a handle holds has seen
  abbrev pub marks_in : Option (Seat R W) → Marks
  marks_in None = record { closed = false; done = false; draining = false }
  marks_in (Some s) = marks_at (seat_place s)

  -- what a look shows to the seat that a handle holds
  abbrev pub LooksThrough : Option (Seat R W) → Option (Seat R W) → Word → Type 0
  LooksThrough (Some before) (Some after) word = Looks (seat_place before) (seat_place after) word
  LooksThrough _ _ word = ⊥

  -- how many closes the seat that a handle holds has made
  abbrev pub closes_in : Option (Seat R W) → ℕ
  closes_in None = 0
  closes_in (Some s) = closes (seat_place s)

  -- how many destroys it has made
  abbrev pub destroys_in : Option (Seat R W) → ℕ
  destroys_in None = 0
  destroys_in (Some s) = destroys (seat_place s)

  -- how many drains it has made
  abbrev pub drains_in : Option (Seat R W) → ℕ
  drains_in None = 0
  drains_in (Some s) = drains (seat_place s)

  -- the operations that the seat that a handle holds has made, in order
  abbrev pub operations_in : Option (Seat R W) → List Op
  operations_in None = []
  operations_in (Some s) = deeds (seat_place s)

  -- what all seats had done when it made its last operation or look
  abbrev pub heard_in : Option (Seat R W) → List Event
  heard_in None = []
  heard_in (Some s) = heard_by (seat_place s)

  -- the word of the seat, where there is a seat
  abbrev pub word_in : Option (Seat R W) → Option WordId
  word_in None = None
  word_in (Some s) = Some (word_of (seat_place s))

  -- there is a seat, and it is one of this word's
  abbrev pub HoldsSeatOf : LockWord R W → Option (Seat R W) → Type 0
  HoldsSeatOf w seat = word_in seat ≡ Some (word_id w)

  -- what the seat has seen of which this is left
  abbrev pub marks_left : Freed R W → Marks
  marks_left (left.Kept s) = marks_at (seat_place s)
  marks_left (left.Last l) = marks_at (last_place l)

  -- how many closes the seat has made of which this is left
  abbrev pub closes_left : Freed R W → ℕ
  closes_left (left.Kept s) = closes (seat_place s)
  closes_left (left.Last l) = closes (last_place l)

  -- how many destroys it has made
  abbrev pub destroys_left : Freed R W → ℕ
  destroys_left (left.Kept s) = destroys (seat_place s)
  destroys_left (left.Last l) = destroys (last_place l)

  -- how many drains it has made
  abbrev pub drains_left : Freed R W → ℕ
  drains_left (left.Kept s) = drains (seat_place s)
  drains_left (left.Last l) = drains (last_place l)

  -- what all seats had done when the seat made its last operation or look of which this is left
  abbrev pub heard_left : Freed R W → List Event
  heard_left (left.Kept s) = heard_by (seat_place s)
  heard_left (left.Last l) = heard_by (last_place l)

  -- the operations that the seat has made of which this is left
  abbrev pub deeds_left : Freed R W → List Op
  deeds_left (left.Kept s) = deeds (seat_place s)
  deeds_left (left.Last l) = deeds (last_place l)

  -- what is still to be done by who has this left: to destroy, or nothing
  abbrev pub duty_left : Freed R W → List Op
  duty_left (left.Kept s) = []
  duty_left (left.Last l) = op.Destroy ∷ []

  -- somebody else has a reference still, and destroys
  abbrev pub IsKept : Freed R W → Type 0
  IsKept (left.Kept s) = Unit {0}
  IsKept (left.Last l) = ⊥
