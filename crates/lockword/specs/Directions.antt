-- The semaphore, the slot and the half of a direction.
use Rattle.std.specs.Prelude.{◌≡◌}
use Rattle.lockword.specs.Words.{ℕ, some, Dir, Read, Write}
use mathlib.Core.Option.{Option}
use Rattle.lockword.specs.declared.shared_rule.Half.{Half}
use Rattle.lockword.specs.declared.shared_rule.Half.TheVariants as half
use Rattle.lockword.specs.declared.shared_rule.TheConstants.{READ_HALF, WRITE_HALF, READ_SIGNALS}
use Rattle.lockword.specs.declared.shared_rule.TheConstants.{WRITE_SIGNALS}

-- the word of a direction's semaphore
abbrev pub semaphore : Dir → ℕ
semaphore Read = READ_SIGNALS
semaphore Write = WRITE_SIGNALS

-- the slot of a direction's half
abbrev pub slot_of : Dir → ℕ
slot_of Read = READ_HALF
slot_of Write = WRITE_HALF

-- what the lock of a direction guards
abbrev pub Guarded : Type 0 → Type 0 → Dir → Type 0
Guarded R W Read = R
Guarded R W Write = W

module _ {R W : Type 0} where
  -- a half, as a slot holds it
  abbrev pub half_of : (d : Dir) → Guarded R W d → Half R W
  half_of Read r = half.Read r
  half_of Write w = half.Write w

  -- a slot's content is the half of the direction
  abbrev pub IsHalf : Dir → Half R W → Type 0
  IsHalf d x = (h : Guarded R W d) × (x ≡ half_of d h)

  -- 1 where a slot is at home with the half of the direction in it
  abbrev pub half_home : Dir → Option (Option (Half R W)) → ℕ
  half_home Read (some (some (half.Read r))) = 1
  half_home Write (some (some (half.Write w))) = 1
  half_home _ _ = 0
