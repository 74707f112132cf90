-- Looking for the target with the fewest connections, one after another.
use Rattle.std.proofs.Common.{◌≡◌, ◌∙◌, sym, ap, subst, ℕ, ◌+◌, ◌*◌, ◌≤◌, ◌<◌, List, Option, Some, None, arith, inl, inr}
use Rattle.std.specs.Prelude.{◌⊎◌, slice_index, IfSome, IsSomeAnd, MatchOption}
use Rattle.std.proofs.lemmas.Bool.{cases_lt}
use Rattle.target_pick.proofs.Shares.{crosses}

-- of the first targets this is the best: none where none of them has a share
abbrev pub Kept : List ℕ → List ℕ → ℕ → ℕ → Option ℕ → Type 0
Kept shares loads len i best = MatchOption best
    ((k : ℕ) → k < i → slice_index shares k ≡ 0)
    (λ b. (b < len) × (0 < slice_index shares b)
    × ((k : ℕ) → k < i → 0 < slice_index shares k
    → slice_index loads b * slice_index shares k ≤ slice_index loads k * slice_index shares b))

-- a place below the next one is below this one, or is it
next : (k i : ℕ) → k < i + 1 → (k < i) ⊎ (k ≡ i)
next k i below = by_cases (cases_lt k i)
  where
    by_cases : (k < i) ⊎ (i ≤ k) → (k < i) ⊎ (k ≡ i)
    by_cases (inl before) = inl before
    by_cases (inr here) = inr (omega arith)

pub takes_new : (shares loads : List ℕ) (len i : ℕ) (best : Option ℕ) → Kept shares loads len i best → i < len
    → 0 < slice_index shares i
    → IfSome best (λ b. slice_index loads i * slice_index shares b ≤ slice_index loads b * slice_index shares i)
    → Kept shares loads len (i + 1) (Some i)
takes_new shares loads len i None kept here some before = (here, some, λ k below has. each k has (next k i below))
  where
    each : (k : ℕ) → 0 < slice_index shares k → (k < i) ⊎ (k ≡ i)
        → slice_index loads i * slice_index shares k ≤ slice_index loads k * slice_index shares i
    each k has (inl lower) = absurd (let none = kept k lower in omega arith)
    each k has (inr same) =
        let P : ℕ → Type 0 = λ (n : ℕ). slice_index loads i * slice_index shares n ≤ slice_index loads n * slice_index shares i in
        subst P (sym same) (omega arith)
takes_new shares loads len i (Some b) kept here some before = (here, some, λ k below has. each k has (next k i below))
  where
    each : (k : ℕ) → 0 < slice_index shares k → (k < i) ⊎ (k ≡ i)
        → slice_index loads i * slice_index shares k ≤ slice_index loads k * slice_index shares i
    each k has (inl lower) =
        crosses (slice_index loads i) (slice_index loads b) (slice_index loads k) (slice_index shares i)
        (slice_index shares b) (slice_index shares k) kept.1 before (kept.2 k lower has)
    each k has (inr same) =
        let P : ℕ → Type 0 = λ (n : ℕ). slice_index loads i * slice_index shares n ≤ slice_index loads n * slice_index shares i in
        subst P (sym same) (omega arith)

pub keeps_without_share : (shares loads : List ℕ) (len i : ℕ) (best : Option ℕ) → Kept shares loads len i best
    → slice_index shares i ≡ 0 → Kept shares loads len (i + 1) best
keeps_without_share shares loads len i None kept none = λ k below. each k (next k i below)
  where
    each : (k : ℕ) → (k < i) ⊎ (k ≡ i) → slice_index shares k ≡ 0
    each k (inl lower) = kept k lower
    each k (inr same) = ap (λ (n : ℕ). slice_index shares n) same ∙ none
keeps_without_share shares loads len i (Some b) kept none =
    (kept.0, kept.1, λ k below has. each k has (next k i below))
  where
    each : (k : ℕ) → 0 < slice_index shares k → (k < i) ⊎ (k ≡ i)
        → slice_index loads b * slice_index shares k ≤ slice_index loads k * slice_index shares b
    each k has (inl lower) = kept.2 k lower has
    each k has (inr same) = absurd (let e = ap (λ (n : ℕ). slice_index shares n) same in omega arith)

pub keeps_before : (shares loads : List ℕ) (len i : ℕ) (best : Option ℕ) → Kept shares loads len i best
    → IsSomeAnd best (λ b. slice_index loads b * slice_index shares i ≤ slice_index loads i * slice_index shares b)
    → Kept shares loads len (i + 1) best
keeps_before shares loads len i None kept behind = absurd behind
keeps_before shares loads len i (Some b) kept behind =
    (kept.0, kept.1, λ k below has. each k has (next k i below))
  where
    each : (k : ℕ) → 0 < slice_index shares k → (k < i) ⊎ (k ≡ i)
        → slice_index loads b * slice_index shares k ≤ slice_index loads k * slice_index shares b
    each k has (inl lower) = kept.2 k lower has
    each k has (inr same) =
        let P : ℕ → Type 0 = λ (n : ℕ). slice_index loads b * slice_index shares n ≤ slice_index loads n * slice_index shares b in
        subst P (sym same) behind
