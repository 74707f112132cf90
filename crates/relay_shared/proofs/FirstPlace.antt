-- The place of the first that passes a test.
use Rattle.std.proofs.Common.{◌≡◌, ◌<◌, refl, ℕ, Bool, true, false, List, [], ◌∷◌, length, get_or, arith}
use Rattle.std.specs.List.{position_or_len}
use Rattle.std.proofs.lemmas.List.Sums.{position_or_len_is}

-- where none passes, the place is behind the last
pub none_passes : {X : Type 0} (p : X → Bool) (xs : List X)
    → ((k : ℕ) (d : X) → k < length xs → p (get_or xs k d) ≡ false) → position_or_len p xs ≡ length xs
none_passes p [] h = refl
none_passes p (x ∷ xs) h =
    position_or_len_is p (x ∷ xs) (length (x ∷ xs)) x (omega arith) (λ k lt. h k x lt) (λ lt. absurd (omega arith))

-- where none before passes and this one does, the place is its own
pub first_passes : {X : Type 0} (p : X → Bool) (xs : List X) (i : ℕ) (x : X) → i < length xs
    → ((k : ℕ) (d : X) → k < i → p (get_or xs k d) ≡ false) → p (get_or xs i x) ≡ true
    → position_or_len p xs ≡ i
first_passes p xs i x within before passes =
    position_or_len_is p xs i x (omega arith) (λ k lt. before k x lt) (λ lt. passes)
