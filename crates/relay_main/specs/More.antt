-- Lists that have more at their end than before.
use Rattle.std.specs.Prelude.{◌≡◌, ◌⊎◌, ◌++◌, ◌∷◌, [], List, All}

-- behind what it had the list has some more, which are all so
abbrev pub HasMore : {X : Type 0} → (X → Type 0) → (old new : List X) → Type 0
HasMore {X} Is old new = (more : List X) × (new ≡ old ++ more) × All Is more

-- it is as it was, or has one more that is so
abbrev pub HasOneMore : {X : Type 0} → (X → Type 0) → (old new : List X) → Type 0
HasOneMore {X} Is old new = (new ≡ old) ⊎ ((one : X) × (new ≡ old ++ one ∷ []) × Is one)
