-- Where the seat of a task's half is: free where no call is under way, and else in the half's lock.
use Rattle.std.specs.Prelude.{◌≡◌, ℕ, Bool, true, false, Option, Some, None, List, []}
use Rattle.lockword_core.specs.declared.stake.Op.{Op}
use Rattle.lockword_core.specs.declared.stake.Event.{Event}
use Rattle.lockword.specs.declared.directions.Direction.{Ghosts}
use Rattle.lockword.specs.declared.directions.Guards as guards
use Rattle.lockword.specs.declared.holders.LockWord.{LockWord}
use Rattle.lockword.specs.Lent.{half_in}
use Rattle.lockword.specs.Marks.{WordId, Place, word_of, deeds, heard_by, marks_of as marks_at}
use Rattle.lockword.specs.Places.{seat_place, lock_place}
use Rattle.lockword.specs.TransitionOutcomes.{word_id}
use Rattle.fdmutex.specs.Deeds.{closes, destroys, drains}
use Rattle.fd_descriptor.specs.declared.task_half.HalfState.{HalfState}
use Rattle.fd_descriptor.specs.declared.task_half.HalfState.TheVariants as state
use Rattle.fd_descriptor.specs.HalfUse.{FoundAtHome, LeftAtHome}
use Rattle.fd_descriptor.specs.Marks.{Marks}

module _ {D R W G : Type 0} {kept : guards.Ghosts D R W G} {way : Ghosts D} where
  -- the seat's place
  abbrev pub place_of : HalfState D R W G kept way → Place R W
  place_of (state.Idle seat) = seat_place seat
  place_of (state.UnderWay held) = lock_place held

  -- a call is under way
  abbrev pub is_calling : Option (HalfState D R W G kept way) → Bool
  is_calling None = false
  is_calling (Some (state.Idle seat)) = false
  is_calling (Some (state.UnderWay held)) = true

  -- what the seat has seen
  abbrev pub marks_held : Option (HalfState D R W G kept way) → Marks
  marks_held None = record { closed = false; done = false; draining = false }
  marks_held (Some it) = marks_at (place_of it)

  -- the operations that the seat has made, in order
  abbrev pub operations_held : Option (HalfState D R W G kept way) → List Op
  operations_held None = []
  operations_held (Some it) = deeds (place_of it)

  -- what all seats had done when the seat made its last operation or look
  abbrev pub heard_held : Option (HalfState D R W G kept way) → List Event
  heard_held None = []
  heard_held (Some it) = heard_by (place_of it)

  -- the half that the call under way has, where one is
  abbrev pub half_held : Option (HalfState D R W G kept way) → Option G
  half_held None = None
  half_held (Some (state.Idle seat)) = None
  half_held (Some (state.UnderWay held)) = Some (half_in held)

  -- the half that a call has: that of the call under way, or else the one that was at home when a
  -- call that begins took its lock
  abbrev pub HadHalf : Option (HalfState D R W G kept way) → G → Type 0
  HadHalf None half = ⊥
  HadHalf (Some (state.Idle seat)) half =
      FoundAtHome R W way.dir (kept.stored half) (deeds (seat_place seat))
  HadHalf (Some (state.UnderWay held)) half = half ≡ half_in held

  -- where the half is then: a call that is under way has it, or else its lock was given back, and it
  -- was at home
  abbrev pub HasHalf : Option (HalfState D R W G kept way) → G → Type 0
  HasHalf None half = ⊥
  HasHalf (Some (state.Idle seat)) half =
      LeftAtHome R W way.dir (kept.stored half) (deeds (seat_place seat))
  HasHalf (Some (state.UnderWay held)) half = half_in held ≡ half

  -- a call did this with the half that it had, and left it so
  pub record TakesHalf (before after : Option (HalfState D R W G kept way)) (Did : G → G → Type 0) :
      Type 0 where
    pub first : G
    pub last : G
    pub had : HadHalf before first
    pub did : Did first last
    pub has : HasHalf after last

  -- how many closes the seat has made
  abbrev pub closes_held : Option (HalfState D R W G kept way) → ℕ
  closes_held None = 0
  closes_held (Some it) = closes (place_of it)

  -- how many destroys it has made
  abbrev pub destroys_held : Option (HalfState D R W G kept way) → ℕ
  destroys_held None = 0
  destroys_held (Some it) = destroys (place_of it)

  -- how many drains it has made
  abbrev pub drains_held : Option (HalfState D R W G kept way) → ℕ
  drains_held None = 0
  drains_held (Some it) = drains (place_of it)

  -- the word of the seat, where there is a seat
  abbrev pub word_held : Option (HalfState D R W G kept way) → Option WordId
  word_held None = None
  word_held (Some it) = Some (word_of (place_of it))

  -- there is a seat, and it is one of this word's
  abbrev pub IsAtWord : LockWord R W → Option (HalfState D R W G kept way) → Type 0
  IsAtWord w it = word_held it ≡ Some (word_id w)

  -- the seat had seen its word neither closed nor draining, unless a call was under way
  abbrev pub MayCall : Option (HalfState D R W G kept way) → Type 0
  MayCall it =
      is_calling it ≡ false → ((marks_held it).closed ≡ false) × ((marks_held it).draining ≡ false)
