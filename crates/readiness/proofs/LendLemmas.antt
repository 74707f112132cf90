-- What tokens name where a task that was lent was changed.
use Rattle.std.proofs.Common.{◌≡◌, ◌≢◌, ℕ, Bool, true, false, Option, Some, None, refl, sym, ap, subst}
use Rattle.std.specs.Prelude.{◌==◌, IsSome, if◌then◌else◌}
use Rattle.slab.specs.Slab.{Slab, get}
use Rattle.slab.proofs.SlabLemmas.{Updates-with_value}
use Rattle.readiness.specs.Lends.{with_task, with_task_at}
use Rattle.readiness.specs.LoopToken.{place_in, serial_in}
use Rattle.readiness.specs.Tasks.{task_in, task_with}
use Rattle.readiness.specs.declared.tasks.Slot.{Slot}
use Rattle.readiness.specs.declared.tasks.Tasks.{Tasks}

module _ {T : Type 0} where
  -- a write of a task leaves each slot of another place
  other_slot : (slots : Slab (Slot T)) (place : ℕ) (found : Option (Slot T)) (task : T) → get slots place ≡ found
      → (other : ℕ) → other ≢ place → get (with_task_at slots place found task) other ≡ get slots other
  other_slot slots place None task is other differs = refl
  other_slot slots place (Some slot) task is other differs =
      (Updates-with_value slots place (record slot { task = task }) (subst IsSome (sym is) refl)).others other differs

  -- the task in a slot that is named is the one that is named
  pub named_if : (names : Bool) (found task : T) → (if names then Some found else None) ≡ Some task → found ≡ task
  named_if true found task named = cc
  named_if false found task named = absurd (cc)

module _ {T A : Type 0} where
  -- where a task was changed, tokens of other places name what they did
  pub others_named : (tasks : Tasks T A) (token : ℕ) (task : T) (other : ℕ) → place_in other ≢ place_in token
      → task_in (with_task tasks token task) other ≡ task_in tasks other
  others_named tasks token task other away =
      ap (task_with (serial_in other))
      (other_slot tasks.slots (place_in token) (get tasks.slots (place_in token)) task refl (place_in other) away)
