-- The tasks of a loop, as callers see them.
use Rattle.std.specs.Prelude.{◌≡◌, ◌≢◌, ◌⊎◌, ◌==◌, ◌<◌, ◌≤◌, ℕ, Bool, true, List, Contains}
use Rattle.std.specs.Prelude.{Option, Some, None, if◌then◌else◌, length}
use Rattle.slab.specs.Slab.{get, slab_len, HasRoomFor}
use Rattle.readiness.specs.LoopToken.{place_in, serial_in, place_at}
use Rattle.readiness.specs.declared.loop_token.Place.{Place}
use Rattle.readiness.specs.declared.tasks.Slot.{Slot}
use Rattle.readiness.specs.declared.tasks.Tasks.{Tasks}
use Rattle.readiness.specs.declared.tasks.NoPlace.{NoPlace}
use Rattle.readiness.specs.declared.tasks.NoPlace.TheVariants as why

module _ {T : Type 0} where
  -- the task in a slot, if it has this serial
  abbrev pub task_with : ℕ → Option (Slot T) → Option T
  task_with serial None = None
  task_with serial (Some slot) = if slot.serial == serial then Some slot.task else None

  -- whether the task in a slot gave way since it came last, if it has this serial
  abbrev pub gave_way_with : ℕ → Option (Slot T) → Option Bool
  gave_way_with serial None = None
  gave_way_with serial (Some slot) = if slot.serial == serial then Some slot.gave_way else None

module _ {T A : Type 0} where
  -- the task that a token names
  abbrev pub task_in : Tasks T A → ℕ → Option T
  task_in tasks token = task_with (serial_in token) (get tasks.slots (place_in token))

  -- whether the task that a token names gave way since it came last
  abbrev pub gave_way_in : Tasks T A → ℕ → Option Bool
  gave_way_in tasks token = gave_way_with (serial_in token) (get tasks.slots (place_in token))

  -- what a token names comes in the next turn: it is listed, or all tasks come
  abbrev pub ComesNext : Tasks T A → ℕ → Type 0
  ComesNext tasks token = (tasks.all_again ≡ true) ⊎ Contains tasks.again.items token

  -- what was to come in the next turn still is
  abbrev pub StillCome : Tasks T A → Tasks T A → Type 0
  StillCome old new = (token : ℕ) → ComesNext old token → ComesNext new token

  -- how many tasks there are
  abbrev pub task_count : Tasks T A → ℕ
  task_count tasks = slab_len tasks.slots

  -- the serial of the next task, which rises with each
  abbrev pub next_serial : Tasks T A → ℕ
  next_serial tasks = tasks.next_serial

  -- the place of the next task
  abbrev pub next_place : Tasks T A → Place
  next_place tasks = place_at tasks.slots.vacant_key tasks.next_serial

  -- the tokens of those that gave way
  abbrev pub gone_again : Tasks T A → List ℕ
  gone_again tasks = tasks.again.items

  -- there is a place and a serial for one task more
  abbrev pub HasNumbers : Tasks T A → Type 0
  HasNumbers tasks = (tasks.slots.vacant_key < 65536) × (tasks.next_serial ≤ 140737488355326)

  -- one task more can be put, with an alarm
  abbrev pub HasPlace : Tasks T A → Type 0
  HasPlace tasks =
      HasNumbers tasks × HasRoomFor tasks.slots 1 × (tasks.slots.vacant_key < length tasks.alarms)

  -- each token names what it named before
  abbrev pub SameTasks : Tasks T A → Tasks T A → Type 0
  SameTasks old new = (token : ℕ) → task_in new token ≡ task_in old token

  -- each token of another place names what it named before
  abbrev pub OthersKept : Tasks T A → Tasks T A → ℕ → Type 0
  OthersKept old new token = (other : ℕ) → place_in other ≢ place_in token →
      task_in new other ≡ task_in old other

  -- both tokens of the place, which named nothing, name the task, and all others what they named
  pub record IsPut (old new : Tasks T A) (place : Place) (task : T) : Type 0 where
    pub first : task_in new place.first ≡ Some task
    pub second : task_in new place.second ≡ Some task
    pub unused : task_in old place.first ≡ None
    pub others : (token : ℕ) → token ≢ place.first → token ≢ place.second →
        task_in new token ≡ task_in old token

  -- a loop has no place more for this reason, where the tests come in this order
  abbrev pub RefusesPlace : Tasks T A → NoPlace → Type 0
  RefusesPlace tasks why.Full = 65536 ≤ tasks.slots.vacant_key
  RefusesPlace tasks why.SerialsSpent =
      (tasks.slots.vacant_key < 65536) × (140737488355326 < tasks.next_serial)
  RefusesPlace tasks why.OutOfMemory = HasNumbers tasks
