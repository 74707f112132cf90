use Rattle.std.proofs.Common.{◌≡◌, ℕ, slice_get, Some}
use Rattle.relay_shared.specs.declared.requests.Slot.{Slot}
use Rattle.relay_shared.specs.declared.requests.Slot.TheVariants.{Free}
use Rattle.relay_shared.proofs.requests.Slots.none.Given as goal

abbrev pub invariant-loop : goal.invariant-loop
invariant-loop l = (place : ℕ) (found : Slot) → slice_get l.slots.items place ≡ Some found
    → found ≡ Free
