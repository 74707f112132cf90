-- A lock and its half: after a write through it, and where the lock comes back.
use Rattle.std.specs.Prelude.{◌≡◌, [], ◌∷◌, ◌++◌}
use Rattle.lockword.specs.Words.{List, Op}
use Rattle.lockword_core.specs.declared.stake.Op.TheVariants as op
use Rattle.lockword.specs.declared.directions.Direction.{Ghosts}
use Rattle.lockword.specs.declared.directions.Guards as guards
use Rattle.lockword.specs.declared.holders.Held.{Held}
use Rattle.lockword.specs.declared.holders.Lock.{Lock}
use Rattle.lockword.specs.declared.holders.Lock.TheVariants as lock
use Rattle.lockword.specs.declared.holders.Unlock.{Unlock}
use Rattle.lockword.specs.declared.holders.Unlock.TheVariants as unlock
use Rattle.lockword.specs.Home.{WasHome}
use Rattle.lockword.specs.Marks.{Place, deeds}
use Rattle.lockword.specs.Places.{lock_place}

module _ {D R W G : Type 0} {kept : guards.Ghosts D R W G} {way : Ghosts D} where
  -- the half of a lock
  abbrev pub half_in : Held D R W G kept way → G
  half_in l = l.half

  -- a lock with another half
  abbrev pub with_half : Held D R W G kept way → G → Held D R W G kept way
  with_half l h = record l { half = h }

  -- a lock has the half that another has
  abbrev pub SameHalf : Held D R W G kept way → Held D R W G kept way → Type 0
  SameHalf before after = half_in after ≡ half_in before

  -- a lock that comes back has the half that it had
  abbrev pub BringsHalfBack : Held D R W G kept way → Unlock D R W G kept way → Type 0
  BringsHalfBack l (unlock.Lost back) = SameHalf l back
  BringsHalfBack l _ = Unit {0}

  -- just after its seat gave the lock back, the half was at home
  abbrev pub LeftHalf : Held D R W G kept way → Type 0
  LeftHalf l =
      WasHome R W way.dir (kept.stored (half_in l)) (deeds (lock_place l) ++ op.Unlock way.dir ∷ [])

  -- just before a seat took the lock, which had made all its other operations, the half was at home
  abbrev pub FoundHalf : List Op → Held D R W G kept way → Type 0
  FoundHalf did l = WasHome R W way.dir (kept.stored (half_in l)) did

  -- a lock that is taken by a seat of this place has the half that was at home
  abbrev pub BringsHalf : Place R W → Lock D R W G kept way → Type 0
  BringsHalf p (lock.Held l) = FoundHalf (deeds p) l
  BringsHalf p _ = Unit {0}

  -- a lock that is given back leaves its half at home
  abbrev pub LeavesHalf : Held D R W G kept way → Unlock D R W G kept way → Type 0
  LeavesHalf l (unlock.Lost back) = Unit {0}
  LeavesHalf l _ = LeftHalf l
