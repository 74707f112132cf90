-- The earlier of two moments, and what is covered by it.
use Rattle.std.proofs.Common.{◌≡◌, ℕ, ◌≤◌, ◌⊎◌, inl, inr, refl, Option, Some, None, min, ap, arith, sym}
use Rattle.std.proofs.lemmas.Bool.{cases_lt}
use Rattle.deadline_core.specs.Moments.{earlier_of, ComesBy, IsCovered}

min_is_one : (one other : ℕ) → (min one other ≡ one) ⊎ (min one other ≡ other)
min_is_one one other = elim (cases_lt one other) [
  | inl less ↦ inl (omega arith)
  | inr more ↦ inr (omega arith)
]

pub earlier_is_one : (one other : Option ℕ) → (one ≡ earlier_of one other) ⊎ (other ≡ earlier_of one other)
earlier_is_one None other = inr refl
earlier_is_one (Some at) None = inl refl
earlier_is_one (Some first) (Some second) = elim (min_is_one first second) [
  | inl is ↦ inl (ap Some (sym is))
  | inr is ↦ inr (ap Some (sym is))
]

pub covers_itself : (one : Option ℕ) → IsCovered one one
covers_itself None = tt
covers_itself (Some at) = omega arith

pub earlier_covers_one : (one other : Option ℕ) → IsCovered one (earlier_of one other)
earlier_covers_one None other = tt
earlier_covers_one (Some at) None = omega arith
earlier_covers_one (Some first) (Some second) = omega arith

pub earlier_covers_other : (one other : Option ℕ) → IsCovered other (earlier_of one other)
earlier_covers_other None other = covers_itself other
earlier_covers_other (Some at) None = tt
earlier_covers_other (Some first) (Some second) = omega arith

-- what is covered by an alarm is covered by one that covers the alarm
pub covers_through : (awaited alarm other : Option ℕ) → IsCovered awaited alarm → IsCovered alarm other →
    IsCovered awaited other
covers_through None alarm other covered through = tt
covers_through (Some at) None other covered through = absurd covered
covers_through (Some at) (Some moment) None covered through = absurd through
covers_through (Some at) (Some moment) (Some first) covered through = omega arith

-- what has come has an alarm that has come, where it is covered
pub come_through : (awaited alarm : Option ℕ) (now : ℕ) → ComesBy awaited now → IsCovered awaited alarm →
    ComesBy alarm now
come_through None alarm now come covered = absurd come
come_through (Some at) None now come covered = absurd covered
come_through (Some at) (Some moment) now come covered = omega arith

pub moves_on : (alarm : Option ℕ) (at later : ℕ) → at ≤ later → IsCovered (Some at) alarm → IsCovered (Some later) alarm
moves_on None at later after covered = covered
moves_on (Some moment) at later after covered = omega arith
