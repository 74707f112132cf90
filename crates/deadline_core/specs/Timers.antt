-- Timers as a finite map from a key and a direction to a moment, and which of them are due.
use Rattle.std.specs.Prelude.{◌≡◌, ℕ, ◌≤◌, List, [], ◌∷◌, length, Some}
use Rattle.std.specs.List.{All, AllPairs}
use Rattle.std.specs.FinMap.{FinMap, get, remove}
use Rattle.deadline_core.specs.DueOrder.{Slot, slot_cmp, Before}

-- the timers that are armed, with their moments
abbrev pub Armed : Type 0
Armed = FinMap slot_cmp ℕ

-- the timers without these
abbrev pub remove_all : Armed → List Slot → Armed
remove_all armed [] = armed
remove_all armed (slot ∷ slots) = remove_all (remove armed slot) slots

-- a timer is armed for a moment that has come
abbrev pub IsDue : Armed → ℕ → Slot → Type 0
IsDue armed now slot = (at : ℕ) × (get armed slot ≡ Some at) × (at ≤ now)

-- of two armed timers, one fires before the other
abbrev pub FiresBefore : Armed → Slot → Slot → Type 0
FiresBefore armed one other = (m n : ℕ) → get armed one ≡ Some m → get armed other ≡ Some n →
    Before (one, m) (other, n)

-- these are the first 256 timers that are due, in the order in which they fire, or all where fewer
-- are due
pub record AreFirstDue (armed : Armed) (now : ℕ) (given : List Slot) : Type 0 where
  pub due : All (IsDue armed now) given
  pub in_order : AllPairs (FiresBefore armed) given
  pub at_most_256 : length given ≤ 256
  pub no_fewer_if_more_are_due : (slot : Slot) → IsDue (remove_all armed given) now slot →
      length given ≡ 256
  pub before_all_others : (slot : Slot) → IsDue (remove_all armed given) now slot →
      All (λ one. FiresBefore armed one slot) given

-- some timer is armed for this moment, and none for an earlier one
pub record IsLeastMoment (armed : Armed) (moment : ℕ) : Type 0 where
  pub taken : (slot : Slot) × (get armed slot ≡ Some moment)
  pub least : (slot : Slot) (at : ℕ) → get armed slot ≡ Some at → moment ≤ at
