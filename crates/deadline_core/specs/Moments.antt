-- Moments that may not be there.
use Rattle.std.specs.Prelude.{ℕ, ◌≤◌, Option, Some, None, min}

-- the one that comes first of two moments, where there is one
abbrev pub earlier_of : Option ℕ → Option ℕ → Option ℕ
earlier_of None other = other
earlier_of (Some at) None = Some at
earlier_of (Some first) (Some second) = Some (min first second)

-- the alarm, if there is one, comes at this moment or before it
abbrev pub ComesBy : Option ℕ → ℕ → Type 0
ComesBy None at = ⊥
ComesBy (Some moment) at = moment ≤ at

-- what is awaited, if anything is, has an alarm by then
abbrev pub IsCovered : Option ℕ → Option ℕ → Type 0
IsCovered None alarm = Unit {0}
IsCovered (Some at) alarm = ComesBy alarm at
