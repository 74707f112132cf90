-- The alarms of a loop's tasks, of which one was changed between two turns.
use Rattle.std.proofs.Common.{◌≡◌, ◌≢◌, ◌∙◌, ℕ, Option, Some, None, refl, sym, ap, subst, inl, inr, length}
use Rattle.std.specs.Prelude.{option_and_then, IsSome, ◌==◌}
use Rattle.std.specs.Option.{option_map}
use Rattle.std.proofs.lemmas.Bool.{cases_eq}
use Rattle.slab.specs.Slab.{Slab, get, with_value}
use Rattle.slab.proofs.SlabLemmas.{Updates-with_value}
use Rattle.deadline_core.specs.Moments.{IsCovered}
use Rattle.readiness.specs.Lends.{with_task, with_task_at}
use Rattle.readiness.specs.LoopToken.{place_in, serial_in}
use Rattle.readiness.specs.TaskAlarms.{alarm_by_place, IsPlaced, IsPlacedBy, AreArmedBut, AreArmed, StandApart}
use Rattle.readiness.specs.Tasks.{task_in, task_with}
use Rattle.readiness.specs.declared.tasks.Slot.{Slot}
use Rattle.readiness.specs.declared.tasks.Tasks.{Tasks}
use Rattle.readiness.proofs.AlarmLemmas.{open_at, closed_at}
use Rattle.readiness.proofs.LendLemmas.{named_if}

none_is_some : (place : ℕ) → let none : Option ℕ = None in none ≢ Some place
none_is_some place same = cc

module _ {T : Type 0} where
  -- a write of a task leaves each serial
  same_serial : (slots : Slab (Slot T)) (place : ℕ) (found : Option (Slot T)) (task : T) → get slots place ≡ found
      → (other : ℕ) → option_map (λ slot. slot.serial) (get (with_task_at slots place found task) other)
      ≡ option_map (λ slot. slot.serial) (get slots other)
  same_serial slots place None task is other = refl
  same_serial slots place (Some slot) task is other =
      let wrote = Updates-with_value slots place (record slot { task = task }) (subst IsSome (sym is) refl) in
      elim (cases_eq other place) [
        | inl same ↦ subst
            (λ n. option_map (λ (s : Slot T). s.serial) (get (with_value slots place (record slot { task = task })) n)
            ≡ option_map (λ (s : Slot T). s.serial) (get slots n)) (sym same)
            (ap (option_map (λ (s : Slot T). s.serial)) wrote.changed
            ∙ sym (ap (option_map (λ (s : Slot T). s.serial)) is))
        | inr differs ↦ ap (option_map (λ (s : Slot T). s.serial)) (wrote.others other differs)
      ]

  -- and each task of another place
  other_task : (slots : Slab (Slot T)) (place : ℕ) (found : Option (Slot T)) (task : T) → get slots place ≡ found
      → (other : ℕ) → other ≢ place
      → option_map (λ slot. slot.task) (get (with_task_at slots place found task) other)
      ≡ option_map (λ slot. slot.task) (get slots other)
  other_task slots place None task is other differs = refl
  other_task slots place (Some slot) task is other differs =
      ap (option_map (λ (s : Slot T). s.task))
      ((Updates-with_value slots place (record slot { task = task }) (subst IsSome (sym is) refl)).others other differs)

  -- a slot that a token names has the task that it names
  named_task : (serial : ℕ) (slot : Slot T) (task : T) → task_with serial (Some slot) ≡ Some task → slot.task ≡ task
  named_task serial slot task named = named_if (slot.serial == serial) slot.task task named

  -- a task that awaits what the one before it did awaits it at its place
  same_awaited : (awaited : T → Option ℕ) (slots : Slab (Slot T)) (place serial : ℕ) (found : Option (Slot T)) (before task : T)
      → get slots place ≡ found → task_with serial found ≡ Some before → awaited task ≡ awaited before
      → option_and_then awaited (option_map (λ slot. slot.task) (get (with_task_at slots place found task) place))
      ≡ option_and_then awaited (option_map (λ slot. slot.task) (get slots place))
  same_awaited awaited slots place serial None before task is named same = refl
  same_awaited awaited slots place serial (Some slot) before task is named same =
      let wrote = Updates-with_value slots place (record slot { task = task }) (subst IsSome (sym is) refl) in
      ap (λ o. option_and_then awaited (option_map (λ (s : Slot T). s.task) o)) wrote.changed
      ∙ same ∙ sym (ap awaited (named_task serial slot before named))
      ∙ sym (ap (λ o. option_and_then awaited (option_map (λ (s : Slot T). s.task) o)) is)

module _ {T A : Type 0} where
  apart : (tasks : Tasks T A) (token : ℕ) (task : T) → StandApart tasks (with_task tasks token task) (place_in token)
  apart tasks token task = record {
    serials = λ place away. same_serial tasks.slots (place_in token) (get tasks.slots (place_in token)) task refl place;
    tasks = λ place away. other_task tasks.slots (place_in token) (get tasks.slots (place_in token)) task refl place away;
    alarms = λ place away. refl;
    room = refl;
  }

  placed : (tasks : Tasks T A) (token : ℕ) (task : T) → IsPlaced tasks (place_in token)
      → IsPlaced (with_task tasks token task) (place_in token)
  placed tasks token task before =
      subst (λ (s : Option ℕ). IsPlacedBy (length tasks.alarms) (place_in token) s (alarm_by_place tasks (place_in token)))
      (sym (same_serial tasks.slots (place_in token) (get tasks.slots (place_in token)) task refl (place_in token))) before

  -- where a task was changed, all others have their alarms
  pub changed : (tasks : Tasks T A) (token : ℕ) (task : T) (awaited : T → Option ℕ) → AreArmed awaited tasks
      → AreArmedBut awaited (Some (place_in token)) (with_task tasks token task)
  changed tasks token task awaited armed =
      open_at tasks (with_task tasks token task) (place_in token) (apart tasks token task)
      (placed tasks token task (armed.placed (place_in token))) awaited armed

  -- where it awaits what it did, it has its alarm too
  pub changed_alike : (tasks : Tasks T A) (token : ℕ) (before task : T) (awaited : T → Option ℕ)
      → task_in tasks token ≡ Some before → awaited task ≡ awaited before
      → AreArmed awaited tasks → AreArmed awaited (with_task tasks token task)
  changed_alike tasks token before task awaited named same armed =
      closed_at tasks (with_task tasks token task) (place_in token) (apart tasks token task)
      (placed tasks token task (armed.placed (place_in token))) awaited
      (subst (λ (m : Option ℕ). IsCovered m (alarm_by_place tasks (place_in token)))
      (sym (same_awaited awaited tasks.slots (place_in token) (serial_in token) (get tasks.slots (place_in token))
      before task refl named same))
      (armed.armed (place_in token) (none_is_some (place_in token))))
      (record { placed = armed.placed; armed = λ place away. armed.armed place (none_is_some place) })
