-- The alarms of a loop's tasks: at most one for each place, whose task is asked what it awaits.
use Rattle.std.specs.Prelude.{◌≡◌, ◌≢◌, ◌<◌, ◌≤◌, ℕ, Option, Some, None, length}
use Rattle.std.specs.Prelude.{option_and_then}
use Rattle.std.specs.Option.{option_map}
use Rattle.slab.specs.Slab.{get}
use Rattle.deadline_core.specs.Moments.{IsCovered}
use Rattle.deadline_core.specs.PlaceAlarms.{alarm_of}
use Rattle.readiness.specs.declared.tasks.Tasks.{Tasks}

-- a place without a task has no alarm; a task has a place and a serial that a loop gives, and room
-- for its alarm
abbrev pub IsPlacedBy : ℕ → ℕ → Option ℕ → Option ℕ → Type 0
IsPlacedBy room place None alarm = alarm ≡ None
IsPlacedBy room place (Some serial) alarm =
    (place < room) × (place < 65536) × (serial ≤ 140737488355326)

module _ {T A : Type 0} where
  -- the serial of the task at a place
  abbrev pub serial_at : Tasks T A → ℕ → Option ℕ
  serial_at tasks place = option_map (λ slot. slot.serial) (get tasks.slots place)

  -- the task at a place
  abbrev pub task_at : Tasks T A → ℕ → Option T
  task_at tasks place = option_map (λ slot. slot.task) (get tasks.slots place)

  -- the moment for which the alarm of a place is armed
  abbrev pub alarm_by_place : Tasks T A → ℕ → Option ℕ
  alarm_by_place tasks place = alarm_of tasks.alarms place

  -- the moment that the task at a place awaits
  abbrev pub awaited_at : (T → Option ℕ) → Tasks T A → ℕ → Option ℕ
  awaited_at awaited tasks place = option_and_then awaited (task_at tasks place)

  -- what stands at a place is as it has to be
  abbrev pub IsPlaced : Tasks T A → ℕ → Type 0
  IsPlaced tasks place =
      IsPlacedBy (length tasks.alarms) place (serial_at tasks place) (alarm_by_place tasks place)

  -- a task that awaits a moment has an alarm by then
  abbrev pub IsArmed : (T → Option ℕ) → Tasks T A → ℕ → Type 0
  IsArmed awaited tasks place = IsCovered (awaited_at awaited tasks place) (alarm_by_place tasks place)

  -- each task that awaits a moment has an alarm by then, but perhaps that of one place
  pub record AreArmedBut (awaited : T → Option ℕ) (but : Option ℕ) (tasks : Tasks T A) : Type 0
    where
      pub placed : (place : ℕ) → IsPlaced tasks place
      pub armed : (place : ℕ) → but ≢ Some place → IsArmed awaited tasks place

  -- each task that awaits a moment has an alarm by then
  abbrev pub AreArmed : (T → Option ℕ) → Tasks T A → Type 0
  AreArmed awaited tasks = AreArmedBut awaited None tasks

  -- whatever tasks await, each that had an alarm by then has one
  abbrev pub KeepsArmed : Tasks T A → Tasks T A → Type 0
  KeepsArmed old new = (awaited : T → Option ℕ) (but : Option ℕ) → AreArmedBut awaited but old
      → AreArmedBut awaited but new

  -- no task comes: what stands at a place stood there
  abbrev pub NoneComes : Tasks T A → Tasks T A → Type 0
  NoneComes old new = (place serial : ℕ) → serial_at new place ≡ Some serial
      → serial_at old place ≡ Some serial

  -- each place has the task that it had, and its alarm
  pub record StandStill (old new : Tasks T A) : Type 0 where
    pub serials : (place : ℕ) → serial_at new place ≡ serial_at old place
    pub tasks : (place : ℕ) → task_at new place ≡ task_at old place
    pub alarms : (place : ℕ) → alarm_by_place new place ≡ alarm_by_place old place
    pub room : length new.alarms ≡ length old.alarms

  -- each other place has the task that it had, and its alarm
  pub record StandApart (old new : Tasks T A) (but : ℕ) : Type 0 where
    pub serials : (place : ℕ) → place ≢ but → serial_at new place ≡ serial_at old place
    pub tasks : (place : ℕ) → place ≢ but → task_at new place ≡ task_at old place
    pub alarms : (place : ℕ) → place ≢ but → alarm_by_place new place ≡ alarm_by_place old place
    pub room : length new.alarms ≡ length old.alarms
