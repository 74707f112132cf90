-- How an index and an ordered set stand for timers. No public clause cites this module.
use Rattle.std.specs.Prelude.{◌≡◌, ◌==◌, ℕ, ◌<◌, ◌≤◌, ◌⊎◌, Bool, true, false, cond, Option, Some}
use Rattle.std.specs.Prelude.{None}
use Rattle.std.specs.declared.cmp.Ordering.{Ordering}
use Rattle.std.specs.Ordering.{nat_cmp, ordering_then, eq_by_cmp}
use Rattle.std.specs.FinMap.{get, from_entries}
use Rattle.std.specs.BTreeMap as tree
use Rattle.std.specs.BTreeMap.{BTreeMap}
use Rattle.std.specs.BTreeSet.{BTreeSet, contains}
use Rattle.deadline_core.specs.DueOrder.{Slot, slot_cmp, Before}
use Rattle.deadline_core.specs.Timers.{Armed}

-- by moment, then as the slots
abbrev pub moment_cmp : ℕ × Slot → ℕ × Slot → Ordering
moment_cmp one other = ordering_then (nat_cmp one.0 other.0) (slot_cmp one.1 other.1)

-- the timers that an index stands for
abbrev pub armed_in : BTreeMap Slot ℕ → Armed
armed_in moments = from_entries moments.entries

-- the moment that a slot is armed for
abbrev pub moment_in : BTreeMap Slot ℕ → Slot → Option ℕ
moment_in moments slot = tree.get slot_cmp moments slot

-- each armed timer stands in the order with its moment
abbrev pub IsStored : BTreeMap Slot ℕ → BTreeSet (ℕ × Slot) → Type 0
IsStored moments order = (slot : Slot) (at : ℕ) → moment_in moments slot ≡ Some at →
    contains moment_cmp order (at, slot) ≡ true

-- what the order had it has
abbrev pub IsMore : BTreeSet (ℕ × Slot) → BTreeSet (ℕ × Slot) → Type 0
IsMore old new = (entry : ℕ × Slot) → contains moment_cmp old entry ≡ true →
    contains moment_cmp new entry ≡ true

-- the entry's slot is armed for the entry's moment
abbrev pub is_now : Option ℕ → ℕ → Bool
is_now None at = false
is_now (Some moment) at = moment == at

abbrev pub is_current_in : BTreeMap Slot ℕ → ℕ × Slot → Bool
is_current_in moments entry = is_now (moment_in moments entry.1) entry.0

-- this slot has this, and each other slot what it had
abbrev pub Sets : BTreeMap Slot ℕ → BTreeMap Slot ℕ → Slot → Option ℕ → Type 0
Sets old new slot moment = (q : Slot) → moment_in
    new q ≡ cond (eq_by_cmp slot_cmp q slot) moment (moment_in old q)

-- the same timers are armed
abbrev pub SameMoments : BTreeMap Slot ℕ → BTreeMap Slot ℕ → Type 0
SameMoments old new = (slot : Slot) → moment_in new slot ≡ moment_in old slot

-- the first timer that is due, if any is
abbrev pub IsFirstOf : Armed → ℕ → Option (Slot × ℕ) → Type 0
IsFirstOf armed now None = (slot : Slot) (at : ℕ) → get armed slot ≡ Some at → now < at
IsFirstOf armed now (Some first) =
    (get armed first.0 ≡ Some first.1)
    × (first.1 ≤ now)
    × ((slot : Slot) (at : ℕ) → get armed slot ≡ Some at → at ≤ now →
    ((slot, at) ≡ first) ⊎ Before first (slot, at))
