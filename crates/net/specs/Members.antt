-- Who is in a group.
use Rattle.std.specs.Prelude.{◌≡◌, ◌≢◌, ◌⊎◌, ◌<◌, ◌+◌, ℕ, Bool, true, false, List, length, remove, slice_index_or}
use Rattle.std.specs.declared.io.ErrorKind.{ErrorKind}
use Rattle.std.specs.declared.io.ErrorKind.TheVariants.{NotConnected, OutOfMemory}

-- the number isn't among so many from the front
abbrev pub LacksNumber : ℕ → ℕ → List ℕ → Type 0
LacksNumber number count numbers = (at : ℕ) → at < count → slice_index_or numbers at (number + 1) ≢ number

-- the number was taken out of the list, at one place; or it wasn't there, and nothing was
abbrev pub Leaves : ℕ → List ℕ → List ℕ → Type 0
Leaves number old new =
    ((at : ℕ) × (at < length old) × (slice_index_or old at number ≡ number) × (new ≡ remove old at))
    ⊎ (LacksNumber number (length old) old × (new ≡ old))

-- why nobody joins a group that was ended, or one that was refused memory
abbrev pub refusal_of : Bool → ErrorKind
refusal_of true = NotConnected
refusal_of false = OutOfMemory
