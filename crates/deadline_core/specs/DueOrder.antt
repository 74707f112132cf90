-- The order in which timers fire: by moment, then by key, then `Read` before `Write`.
use Rattle.std.specs.Prelude.{◌≡◌, ℕ, suc, zero, refl}
use Rattle.std.specs.declared.cmp.Ordering.{Ordering}
use Rattle.std.specs.declared.cmp.Ordering.TheVariants.{Less}
use Rattle.std.specs.Ordering.{nat_cmp, ordering_then}
use Rattle.std.specs.Coded.{Coded, code_by, coded×, coded_ℕ}
use Rattle.base_types.specs.declared.direction.Dir.{Dir}
use Rattle.base_types.specs.declared.direction.Dir.TheVariants.{Read, Write}

-- what a timer is for: a key and a direction
abbrev pub Slot : Type 0
Slot = ℕ × Dir

-- `Read` comes before `Write`
abbrev pub rank : Dir → ℕ
rank Read = 0
rank Write = 1

-- the direction of a rank
abbrev pub dir_of : ℕ → Dir
dir_of zero = Read
dir_of (suc n) = Write

-- a direction's rank gives it back
pub dir_of-rank : (dir : Dir) → dir_of (rank dir) ≡ dir
dir_of-rank Read = refl
dir_of-rank Write = refl

-- by key, then `Read` before `Write`
abbrev pub slot_cmp : Slot → Slot → Ordering
slot_cmp one other = ordering_then (nat_cmp one.0 other.0) (nat_cmp (rank one.1) (rank other.1))

-- by moment, then as the slots
abbrev pub entry_cmp : Slot × ℕ → Slot × ℕ → Ordering
entry_cmp one other = ordering_then (nat_cmp one.1 other.1) (slot_cmp one.0 other.0)

-- a timer fires before another
abbrev pub Before : Slot × ℕ → Slot × ℕ → Type 0
Before one other = entry_cmp one other ≡ Less

-- a slot is the key and the rank that it is written as
pub slot_of-coded : (slot : Slot) → (slot.0, dir_of (rank slot.1)) ≡ slot
slot_of-coded slot = λ i. (slot.0, dir_of-rank slot.1 i)

-- a slot as two numbers
abbrev pub coded_slot : Coded Slot
coded_slot = code_by (ℕ × ℕ) (coded× coded_ℕ coded_ℕ) (λ slot. (slot.0, rank slot.1))
    (λ pair. (pair.0, dir_of pair.1)) slot_of-coded
