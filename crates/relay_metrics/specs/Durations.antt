-- How durations are counted by the places of bounds.
use Rattle.std.specs.Prelude.{ℕ, ◌-◌, ◌*◌, ◌^◌, Bool, List, min, nat_le, take}
use Rattle.std.specs.List.{position_or_len, sum}

-- so many nanoseconds are no longer than a bound of so many milliseconds
abbrev pub is_within : ℕ → ℕ → Bool
is_within ns bound_ms = nat_le ns (bound_ms * 1000000)

-- the first place whose bound is at least as long; the one behind them, where none is
abbrev pub bound_place : List ℕ → ℕ → ℕ
bound_place bounds_ms ns = position_or_len (is_within ns) bounds_ms

-- how many have one of the first so many places; past the greatest `u64` it stays that
abbrev pub up_to : List ℕ → ℕ → ℕ
up_to counts places = min (sum (take places counts)) (2 ^ 64 - 1)
