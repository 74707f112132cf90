-- Places of sessions, of which one changes.
use Rattle.std.proofs.Common.{◌≡◌, ◌∙◌, ◌<◌, length, arith, ap, refl, sym, ℕ, zero, suc, List, [], ◌∷◌, Option, Some, None, set}
use Rattle.std.specs.Prelude.{slice_get, slice_set}
use Rattle.std.proofs.lemmas.List.{length-set, set-get_or, set-set}
use Rattle.std.proofs.lemmas.Option.{get_or_from_slice_get, slice_get_within}

-- a place that is free is as if it was given up
pub free_as_before : {A : Type 0} (xs : List (Option A)) (place : ℕ) → slice_get xs place ≡ Some None
    → xs ≡ slice_set xs place None
free_as_before xs place is =
    sym (ap (λ it. set xs place it) (sym (get_or_from_slice_get xs place None None is)) ∙ set-get_or xs place None)

-- a place that was given up, and is taken
pub taken_anew : {A : Type 0} (old free new : List (Option A)) (place : ℕ) (it : A) → free ≡ slice_set old place None
    → new ≡ slice_set free place (Some it) → new ≡ slice_set old place (Some it)
taken_anew old free new place it freed is =
    is ∙ ap (λ all. set all place (Some it)) freed ∙ set-set old place None (Some it)

-- such a place is one of those there were
pub is_one_of : {A : Type 0} (old free : List (Option A)) (place : ℕ) → free ≡ slice_set old place None
    → slice_get free place ≡ Some None → place < length old
is_one_of old free place freed is =
    let below : place < length free = slice_get_within free place None is in
    omega (arith, below, ap length freed ∙ length-set old place None)

-- a place that was given up is free
pub free_then : {A : Type 0} (xs : List (Option A)) (place : ℕ) (it : Option A) → slice_get xs place ≡ Some it
    → slice_get (slice_set xs place None) place ≡ Some None
free_then [] place it is = absurd (cc)
free_then (x ∷ xs) zero it is = refl
free_then (x ∷ xs) (suc place) it is = free_then xs place it is
