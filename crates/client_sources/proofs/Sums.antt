-- A sum over a list of which one element counts, and a list of which one element changes.
use Rattle.std.proofs.Common.{◌≡◌, ◌∙◌, ap, refl, ℕ, zero, suc, ◌+◌, List, [], ◌∷◌, Some, map, set, arith}
use Rattle.std.specs.Prelude.{slice_get, sum, sum_by}
use Rattle.std.proofs.lemmas.List.Sums.{sum-map, sum_by-cons, sum_by-set}
use Rattle.std.proofs.lemmas.Option.{get_or_from_slice_get, same_Some, slice_get_within}

-- ---- Sums

none_by : {X : Type 0} (f : X → ℕ) (xs : List X) → ((j : ℕ) (y : X) → slice_get xs j ≡ Some y → f y ≡ 0) → sum_by f xs ≡ 0
none_by f [] none = refl
none_by f (x ∷ xs) none =
    let first = none 0 x refl in
    let rest = none_by f xs (λ (j : ℕ) y at. none (suc j) y at) in
    omega (arith, sum_by-cons f x xs)

one_by : {X : Type 0} (f : X → ℕ) (xs : List X) (i : ℕ) (x : X) → slice_get xs i ≡ Some x
    → ((j : ℕ) (y : X) → (j ≡ i → ⊥) → slice_get xs j ≡ Some y → f y ≡ 0) → sum_by f xs ≡ f x
one_by f [] i x at others = absurd (cc)
one_by f (y ∷ xs) zero x at others =
    let same : f y ≡ f x = ap f (same_Some y x at) in
    let rest = none_by f xs (λ (j : ℕ) z is. others (suc j) z (λ (e : suc j ≡ 0). omega arith) is) in
    omega (arith, sum_by-cons f y xs)
one_by f (y ∷ xs) (suc i) x at others =
    let first = others 0 y (λ (e : 0 ≡ suc i). omega arith) refl in
    let rest = one_by f xs i x at (λ (j : ℕ) z ne is. others (suc j) z (λ (e : suc j ≡ suc i). ne (omega arith)) is) in
    omega (arith, sum_by-cons f y xs)

-- nothing counts
pub sum_none : {X : Type 0} (f : X → ℕ) (xs : List X) → ((j : ℕ) (y : X) → slice_get xs j ≡ Some y → f y ≡ 0)
    → sum (map f xs) ≡ 0
sum_none f xs none = sum-map f xs ∙ none_by f xs none

-- one element counts alone
pub sum_one : {X : Type 0} (f : X → ℕ) (xs : List X) (i : ℕ) (x : X) → slice_get xs i ≡ Some x
    → ((j : ℕ) (y : X) → (j ≡ i → ⊥) → slice_get xs j ≡ Some y → f y ≡ 0) → sum (map f xs) ≡ f x
sum_one f xs i x at others = sum-map f xs ∙ one_by f xs i x at others

-- an element is another one
pub sum_changed : {X : Type 0} (f : X → ℕ) (xs : List X) (i : ℕ) (x y : X) → slice_get xs i ≡ Some x
    → sum (map f (set xs i y)) + f x ≡ sum (map f xs) + f y
sum_changed f xs i x y at =
    let within = slice_get_within xs i x at in
    let was = ap f (get_or_from_slice_get xs i x x at) in
    omega (arith, sum-map f xs, sum-map f (set xs i y), sum_by-set f xs i y x within, was)

-- ---- One element changes

pub at_changed : {X : Type 0} (xs : List X) (i : ℕ) (x y : X) → slice_get xs i ≡ Some x → slice_get (set xs i y) i ≡ Some y
at_changed [] i x y at = absurd (cc)
at_changed (z ∷ xs) zero x y at = refl
at_changed (z ∷ xs) (suc i) x y at = at_changed xs i x y at

pub at_other : {X : Type 0} (xs : List X) (i j : ℕ) (y : X) → (j ≡ i → ⊥) → slice_get (set xs i y) j ≡ slice_get xs j
at_other [] i j y ne = refl
at_other (z ∷ xs) zero zero y ne = absurd (ne refl)
at_other (z ∷ xs) zero (suc j) y ne = refl
at_other (z ∷ xs) (suc i) zero y ne = refl
at_other (z ∷ xs) (suc i) (suc j) y ne = at_other xs i j y (λ (e : j ≡ i). ne (ap suc e))
