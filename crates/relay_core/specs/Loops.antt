-- How many loops a relay has.
use Rattle.std.specs.Prelude.{ℕ, Option, Some, None, ◌&&◌, nat_le, if◌then◌else◌}

-- the number, where a relay can have so many loops: 1 to 64
abbrev pub loop_count : ℕ → Option ℕ
loop_count n = if nat_le 1 n && nat_le n 64 then Some n else None
