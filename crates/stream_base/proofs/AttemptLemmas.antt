-- Attempts one after the other.
use Rattle.std.proofs.Common.{◌≡◌, refl, ℕ, Bool, List, [], ◌∷◌, ◌++◌}
use Rattle.stream_base.specs.Attempt.{flushed_after}

pub flushed_after-append : (flushed : Bool) (xs ys : List ℕ)
    → flushed_after (flushed_after flushed xs) ys ≡ flushed_after flushed (xs ++ ys)
flushed_after-append flushed [] ys = refl
flushed_after-append flushed (x ∷ xs) [] = refl
flushed_after-append flushed (x ∷ xs) (y ∷ ys) = refl
