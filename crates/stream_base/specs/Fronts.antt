-- What a write that stopped has added to the bytes that a sink holds, where these are known.
use Rattle.std.specs.Prelude.{◌≤◌, ◌<◌, ℕ, List, Option, length, take}
use Rattle.std.specs.Io.KnownBytes.{Appends}

-- a front of the text was added, which may be the whole
abbrev pub AppendsFront : Option (List ℕ) → Option (List ℕ) → List ℕ → Type 0
AppendsFront held held' text = (k : ℕ) × (k ≤ length text) × Appends held held' (take k text)

-- a front of the text was added, and not the whole
abbrev pub AppendsPart : Option (List ℕ) → Option (List ℕ) → List ℕ → Type 0
AppendsPart held held' text = (k : ℕ) × (k < length text) × Appends held held' (take k text)
