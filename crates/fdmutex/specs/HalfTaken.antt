-- The half that a lock which waits brings: the one that was at home.
use Rattle.std.specs.Prelude.{◌++◌, ℕ, List, Result, Ok, Err}
use Rattle.base_types.specs.declared.direction.Dir.{Dir}
use Rattle.lockword_core.specs.declared.stake.Op.{Op}
use Rattle.lockword.specs.declared.directions.Direction.{Ghosts}
use Rattle.lockword.specs.declared.directions.Guards as guards
use Rattle.lockword.specs.declared.shared_rule.Half.{Half}
use Rattle.lockword.specs.declared.holders.Seat.{Seat}
use Rattle.lockword.specs.declared.holders.Held.{Held}
use Rattle.lockword.specs.Home.{WasHome}
use Rattle.lockword.specs.Lent.{half_in}
use Rattle.lockword.specs.Marks.{deeds}
use Rattle.lockword.specs.Places.{seat_place}
use Rattle.fdmutex.specs.Did.{waits}
use Rattle.fdmutex.specs.declared.answers.Refusal.{Refusal}

-- a seat that had made these operations waited for the lock, if at all, and then this was at home
pub record FoundAtHome (R W : Type 0) (d : Dir) (content : Half R W) (did : List Op) :
    Type 0 where
  pub times : ℕ
  pub home : WasHome R W d content (did ++ waits d times)

module _ {D R W G : Type 0} {kept : guards.Ghosts D R W G} {way : Ghosts D} where
  -- the lock that is taken has the half that was at home just before
  abbrev pub TakesHalf : Seat R W → Result (Held D R W G kept way) (Seat R W × Refusal) → Type 0
  TakesHalf before (Ok held) =
      FoundAtHome R W way.dir (kept.stored (half_in held)) (deeds (seat_place before))
  TakesHalf before (Err e) = Unit {0}
