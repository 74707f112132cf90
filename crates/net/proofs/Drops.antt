-- What reads come to together that drop what they give.
use Rattle.std.proofs.Common.{◌≡◌, ◌+◌, ◌-◌, ◌^◌, ◌++◌, ℕ, List, Option, length, min, arith}
use Rattle.std.proofs.Common.{length-append}
use Rattle.std.specs.Io.KnownBytes.{Consumes}
use Rattle.std.proofs.KnownBytes.{Consumes-trans}

-- so many bytes came, up to the most that a number holds
abbrev pub HasDropped : ℕ → Option (List ℕ) → Option (List ℕ) → Type 0
HasDropped count before source =
    (came : List ℕ) × Consumes before source came × (count ≡ min (length came) (2 ^ 64 - 1))

-- and those of one more read
pub drops_more : (count more : ℕ) (before source after : Option (List ℕ)) (gave : List ℕ)
    → HasDropped count before source → Consumes source after gave → more ≡ length gave
    → HasDropped (min (count + more) (2 ^ 64 - 1)) before after
drops_more count more before source after gave dropped read is = (
  dropped.0 ++ gave,
  Consumes-trans before source after dropped.0 gave dropped.1 read,
  omega (arith, dropped.2, is, length-append dropped.0 gave),
)
