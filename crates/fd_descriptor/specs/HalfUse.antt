-- Where a half is that a call has: it was at home when the lock was taken, and is again once the lock
-- was given back.
use Rattle.std.specs.Prelude.{◌≡◌, [], ◌∷◌, ◌++◌, List}
use Rattle.std.specs.Fn.{Once, FnOnceReturnsAtMut}
use denote.Ref.{MutBor}
use Rattle.base_types.specs.declared.direction.Dir.{Dir}
use Rattle.lockword_core.specs.declared.stake.Op.{Op}
use Rattle.lockword_core.specs.declared.stake.Op.TheVariants as op
use Rattle.lockword.specs.declared.shared_rule.Half.{Half}
use Rattle.lockword.specs.Home.{WasHome}
pub use Rattle.fdmutex.specs.HalfTaken.{FoundAtHome}

-- a seat that has made these operations gave its lock back, and just then this was at home
pub record LeftAtHome (R W : Type 0) (d : Dir) (content : Half R W) (did : List Op) : Type 0 where
  pub earlier : List Op
  -- what it did then: it gave the signal that it owed, or destroyed, or neither
  pub later : List Op
  pub whole : did ≡ (earlier ++ op.Unlock d ∷ []) ++ later
  pub home : WasHome R W d content (earlier ++ op.Unlock d ∷ [])

-- a seat that had made these operations took its lock, and just before the half was at home; this was
-- done with that half; and it was left at home so by the seat, which has made the later operations
pub record UsesHome (R W : Type 0) {G : Type 0} (d : Dir) (stored : G → Half R W)
    (before after : List Op) (Done : G → G → Type 0) : Type 0 where
  pub first : G
  pub last : G
  pub found : FoundAtHome R W d (stored first) before
  pub did : Done first last
  pub left : LeftAtHome R W d (stored last) after

-- a use of a half calls the closure once, at the half, and is answered so
abbrev pub CallsOnce : {F H Y : Type 0} → Once F (MutBor H × Unit {0}) (Y × (MutBor H × Unit {0}))
    → F → Y → H → H → Type 0
CallsOnce once act answer first last = FnOnceReturnsAtMut once act first answer last

-- the closure was called once, at a half, and gave this
abbrev pub Did : {F H Y : Type 0} → Once F (MutBor H × Unit {0}) (Y × (MutBor H × Unit {0})) → F → Y
    → Type 0
Did {H = H} once act answer =
    (before : H) × (after : H) × FnOnceReturnsAtMut once act before answer after
