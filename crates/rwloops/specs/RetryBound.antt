-- Rows in a list of outcomes. Lists are newest first.
use Rattle.std.specs.Prelude.{◌≡◌, ℕ, ◌+◌, ◌≤◌, Bool, true, ◌&&◌, List, [], ◌∷◌, ◌++◌, length}
use Rattle.std.specs.Prelude.{nat_le, if◌then◌else◌}
use Rattle.std.specs.List.{AllPass}
use Rattle.rwloops.specs.declared.limits.TheConstants.{MAX_RETRIES}

-- how many outcomes, from the newest on, pass the test without a break
abbrev pub newest_row : {A : Type 0} → (A → Bool) → List A → ℕ
newest_row test [] = 0
newest_row test (outcome ∷ earlier) = if test outcome then newest_row test earlier + 1 else 0

-- nowhere do more than `MAX_RETRIES` outcomes in a row pass the test
abbrev pub has_short_rows : {A : Type 0} → (A → Bool) → List A → Bool
has_short_rows test [] = true
has_short_rows test (outcome ∷ earlier) =
    nat_le (newest_row test (outcome ∷ earlier)) MAX_RETRIES && has_short_rows test earlier

-- however the list is cut, no row in it whose outcomes all pass the test is longer than
-- `MAX_RETRIES`
abbrev pub HasNoLongRow : {A : Type 0} → (A → Bool) → List A → Type 0
HasNoLongRow {A = A} test outcomes = (newer row older : List A) →
    outcomes ≡ newer ++ (row ++ older) → AllPass test row → length row ≤ MAX_RETRIES
