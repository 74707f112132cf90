-- What single outcomes say.
use Rattle.std.specs.Prelude.{ℕ, ◌+◌, ◌≤◌, Bool, true, false, List, [], ◌∷◌}
use Rattle.rwloops.specs.declared.outcome.Outcome.{Outcome}
use Rattle.rwloops.specs.declared.outcome.Outcome.TheVariants.{Count, Interrupted, WouldBlock}

-- the outcome is `Interrupted`
abbrev pub is_interrupted : Outcome → Bool
is_interrupted Interrupted = true
is_interrupted _ = false

-- the outcome is `WouldBlock`
abbrev pub is_would_block : Outcome → Bool
is_would_block WouldBlock = true
is_would_block _ = false

-- the bytes of a `Count`, and 0 at any other outcome
abbrev pub count_in : Outcome → ℕ
count_in (Count count) = count
count_in _ = 0

-- the sum of all counts
abbrev pub sum_of_counts : List Outcome → ℕ
sum_of_counts [] = 0
sum_of_counts (outcome ∷ earlier) = sum_of_counts earlier + count_in outcome

-- a count is at most what the try was offered
abbrev pub IsCountWithin : ℕ → Outcome → Type 0
IsCountWithin offered outcome = count_in outcome ≤ offered
