-- A line that is made part by part.
use Rattle.std.proofs.Common.{◌≡◌, ◌∙◌, ap, subst, ℕ, List, [], ◌++◌, Option, Result, OnOk, append_assoc}
use Rattle.std.specs.Io.KnownBytes.{Appends}

-- three parts behind nothing
pub line_is : (head text end a b c d : List ℕ) → a ≡ [] → b ≡ a ++ head → c ≡ b ++ text → d ≡ c ++ end
    → d ≡ head ++ (text ++ end)
line_is head text end a b c d none first second third =
    third ∙ ap (λ (l : List ℕ). l ++ end) (second ∙ ap (λ (l : List ℕ). l ++ text) (first ∙ ap (λ (l : List ℕ). l ++ head) none))
    ∙ append_assoc head text end

-- the same bytes were written
pub same_said : {T E : Type 0} (old new : Option (List ℕ)) (xs ys : List ℕ) (said : Result T E) → xs ≡ ys
    → OnOk said (Appends old new xs) → OnOk said (Appends old new ys)
same_said old new xs ys said e h = subst (λ (bytes : List ℕ). OnOk said (Appends old new bytes)) e h
