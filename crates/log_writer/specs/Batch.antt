-- How a batch goes to a device.
use Rattle.std.specs.Prelude.{◌≡◌, ◌⊎◌, ℕ, Bool, true, List, [], ◌∷◌, ◌++◌, Option}
use Rattle.std.specs.Io.KnownBytes.{Appends}
use Rattle.relay_log.specs.Queue.{Queue, Takes, IsEmpty, all_text}

-- a front of the batch was written, behind what the device held, and the rest is left
abbrev pub WritesFront : List ℕ → List ℕ → Option (List ℕ) → Option (List ℕ) → Type 0
WritesFront old new held held' = (front : List ℕ) × (old ≡ front ++ new) × Appends held held' front

-- the device failed, or took nothing of some bytes
abbrev pub TookNoMore : Bool → Bool → Type 0
TookNoMore failed took_nothing = (failed ≡ true) ⊎ (took_nothing ≡ true)

-- a batch of which something is left stays, and so does the queue; an empty one gets all that waits
abbrev pub Refills : Queue → Queue → List ℕ → List ℕ → Type 0
Refills queue queue' [] batch = (batch ≡ queue.bytes) × Takes queue queue'
Refills queue queue' (b ∷ rest) batch = (batch ≡ b ∷ rest) × (queue' ≡ queue)

-- the same, but that an empty batch gets too what is to be said of lost lines, unless memory for
-- that is refused
abbrev pub Finishes : Queue → Queue → List ℕ → List ℕ → Type 0
Finishes queue queue' [] batch =
    ((batch ≡ all_text queue) × IsEmpty queue') ⊎ ((batch ≡ queue.bytes) × Takes queue queue')
Finishes queue queue' (b ∷ rest) batch = (batch ≡ b ∷ rest) × (queue' ≡ queue)
