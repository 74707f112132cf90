-- Where no timer is armed none comes.
use Rattle.std.proofs.Common.{◌≡◌, ◌∙◌, ◌<◌, ap, ℕ, List, [], ◌∷◌, length, slice_index_or, arith, None, Some}
use Rattle.std.specs.FinMap.{get, empty, get-empty}
use Rattle.base_types.specs.declared.direction.Dir.TheVariants.{Read}
use Rattle.deadline_core.specs.DueOrder.{Slot, slot_cmp}
use Rattle.deadline_core.specs.Timers.{Armed, AreFirstDue, remove_all}

pub none_comes : (armed : Armed) (now : ℕ) (given : List Slot) (k : ℕ) → armed ≡ empty
    → AreFirstDue armed now given → k < length given → ⊥
none_comes armed now given k none first below =
    let due = first.due k (0, Read) below in
    let slot : Slot = slice_index_or given k (0, Read) in
    let nothing : get armed slot ≡ None = ap (λ (m : Armed). get m slot) none ∙ get-empty slot_cmp slot in
    let comes : get armed slot ≡ Some due.0 = due.1 in
    absurd (cc)

pub none_are_left : (armed : Armed) (now : ℕ) (given : List Slot) → armed ≡ empty
    → AreFirstDue armed now given → remove_all armed given ≡ empty
none_are_left armed now [] none first = none
none_are_left armed now (slot ∷ slots) none first =
    absurd (none_comes armed now (slot ∷ slots) 0 none first (omega arith))
