-- What ends with listeners.
use Rattle.std.specs.Prelude.{◌≡◌, ◌≢◌, ◌<◌, ℕ, List, length, slice_get, None}
use Rattle.std.specs.Option.{option_map_or}
use Rattle.readiness.specs.LoopToken.{place_in}
use Rattle.readiness.specs.Tasks.{task_in}
use Rattle.readiness.specs.declared.tasks.Tasks.{Tasks}
use Rattle.relay_main.specs.declared.rule_listeners.Listening.{Listening}

-- the token of the task that has the listener at this place of a list; 0 behind the last
abbrev pub token_at : List Listening → ℕ → ℕ
token_at listening k = option_map_or (λ one. one.token) (slice_get listening k) 0

-- the place of that task
abbrev pub task_place : List Listening → ℕ → ℕ
task_place listening k = place_in (token_at listening k)

-- of the first listeners of a list, the token of each names no task any more, behind which none is of
-- its place, and whoever is of none of their places has the task that it had
pub record AreEndedOf {T A : Type 0} (listening : List Listening) (count : ℕ) (old new : Tasks T A)
    : Type 0 where
  pub gone : (k : ℕ) → k < count
      → ((j : ℕ) → k < j → j < count → task_place listening j ≢ task_place listening k)
      → task_in new (token_at listening k) ≡ None
  pub others : (other : ℕ) → ((k : ℕ) → k < count → place_in other ≢ task_place listening k)
      → task_in new other ≡ task_in old other

-- the same of all: as two tasks are of two places, each of these is ended, and no other
abbrev pub AreEnded : {T A : Type 0} → List Listening → Tasks T A → Tasks T A → Type 0
AreEnded listening old new = AreEndedOf listening (length listening) old new
