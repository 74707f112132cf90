-- Whether a target is up, by the list of its outcomes, the newest first.
use Rattle.std.specs.Prelude.{◌≡◌, ◌+◌, ℕ, Bool, true, ◌&&◌, ◌||◌, List, [], ◌∷◌, min, nat_le, nat_lt}
use Rattle.target_pick.specs.declared.health.Health.{Health}
use Rattle.target_pick.specs.declared.health.Limits.{Limits}
use Rattle.target_pick.specs.declared.health.Outcome.{Outcome}
use Rattle.target_pick.specs.declared.health.Outcome.TheVariants.{Passed, Connected, Failed}

-- how many failures came last
abbrev pub failures_of : List Outcome → ℕ
failures_of [] = 0
failures_of (Failed ∷ outcomes) = 1 + failures_of outcomes
failures_of (Passed ∷ outcomes) = 0
failures_of (Connected ∷ outcomes) = 0

-- how many checks passed since the last failure
abbrev pub passes_of : List Outcome → ℕ
passes_of [] = 0
passes_of (Failed ∷ outcomes) = 0
passes_of (Passed ∷ outcomes) = 1 + passes_of outcomes
passes_of (Connected ∷ outcomes) = passes_of outcomes

-- a target of which nothing is known is up; the failure that makes their number brings it down, and
-- the passed check that makes theirs brings it up
abbrev pub is_up : Limits → List Outcome → Bool
is_up limits [] = true
is_up limits (Failed ∷ outcomes) =
    is_up limits outcomes && nat_lt (1 + failures_of outcomes) limits.fall
is_up limits (Passed ∷ outcomes) =
    is_up limits outcomes || nat_le limits.rise (1 + passes_of outcomes)
is_up limits (Connected ∷ outcomes) = is_up limits outcomes

-- what a health keeps of these outcomes
pub record Stands (limits : Limits) (outcomes : List Outcome) (health : Health) : Type 0 where
  pub up : health.is_up ≡ is_up limits outcomes
  pub failures : health.failures ≡ min (failures_of outcomes) limits.fall
  pub passes : health.passes ≡ min (passes_of outcomes) limits.rise

-- one step, as the code makes it: a law says that it keeps `Stands`
abbrev pub step : Limits → Health → Outcome → Health
step limits health Passed =
    let passes = min (health.passes + 1) limits.rise in
    record { is_up = health.is_up || nat_le limits.rise passes; failures = 0; passes = passes }
step limits health Connected =
    record { is_up = health.is_up; failures = 0; passes = health.passes }
step limits health Failed =
    let failures = min (health.failures + 1) limits.fall in
    record { is_up = health.is_up && nat_lt failures limits.fall; failures = failures; passes = 0 }
