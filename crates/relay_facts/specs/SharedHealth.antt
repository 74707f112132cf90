-- The health of a checked target, as a word has it.
use Rattle.std.specs.Prelude.{◌≡◌, ◌<◌, ◌/◌, ◌%◌, ◌^◌, ◌==◌, ℕ, Bool, true, false, List, ◌∷◌, Option, Some, None, min}
use Rattle.relay_config.specs.declared.health.Checks.{Checks}
use Rattle.relay_facts.specs.declared.shared_health.Change.{Change}
use Rattle.relay_facts.specs.declared.shared_health.Change.TheVariants.{Down, Up}
use Rattle.target_pick.specs.Health.{Stands}
use Rattle.target_pick.specs.declared.health.Health.{Health}
use Rattle.target_pick.specs.declared.health.Limits.{Limits}
use Rattle.target_pick.specs.declared.health.Outcome.{Outcome}

-- the limits of checks, each at most 100
abbrev pub limits_of : Checks → Limits
limits_of checks = record { fall = min checks.fall 100; rise = min checks.rise 100 }

-- limits that a word has room for
pub record AreSmall (limits : Limits) : Type 0 where
  pub fall : limits.fall < 256
  pub rise : limits.rise < 256

-- the limits that a word has
abbrev pub limits_in : ℕ → Limits
limits_in word = record { fall = word / 2 ^ 24 % 256; rise = word / 2 ^ 16 % 256 }

-- the health that a word has
abbrev pub health_in : ℕ → Health
health_in word = record { is_up = word / 2 ^ 32 % 2 == 1; failures = word / 2 ^ 8 % 256; passes = word % 256 }

-- the word says that the target is up
abbrev pub is_up : ℕ → Bool
is_up word = (health_in word).is_up

-- the word's health is what these outcomes, the newest first, come to by the word's limits
abbrev pub Follows : List Outcome → ℕ → Type 0
Follows outcomes word = Stands (limits_in word) outcomes (health_in word)

-- the word's health is what some outcomes come to
abbrev pub IsHealth : ℕ → Type 0
IsHealth word = (outcomes : List Outcome) × Follows outcomes word

-- the second word is the first one after an outcome more
pub record IsNoted (outcome : Outcome) (old new : ℕ) : Type 0 where
  pub limits : limits_in new ≡ limits_in old
  pub follows : (outcomes : List Outcome) → Follows outcomes old → Follows (outcome ∷ outcomes) new

-- how a state that was and one that is differ
abbrev pub change_of : Bool → Bool → Option Change
change_of true false = Some Down
change_of false true = Some Up
change_of _ _ = None

-- the outcome has changed the state of a target so
abbrev pub TellsChange : Outcome → Change → Type 0
TellsChange outcome change = (old new : ℕ) × IsHealth old × IsNoted outcome old new
    × (change_of (is_up old) (is_up new) ≡ Some change)
