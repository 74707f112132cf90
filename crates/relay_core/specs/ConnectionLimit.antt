-- How many pairs stand at once.
use Rattle.std.specs.Prelude.{ℕ, Option, Some, None, ◌&&◌, nat_le, if◌then◌else◌}

-- the most pairs that may stand at once
abbrev pub most_pairs : ℕ
most_pairs = 50000

-- the number, where so many pairs may stand at once: one at least
abbrev pub pair_count : ℕ → Option ℕ
pair_count n = if nat_le 1 n && nat_le n most_pairs then Some n else None
