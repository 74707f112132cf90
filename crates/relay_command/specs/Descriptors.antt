-- How many descriptors a relay comes to have.
use Rattle.std.specs.Prelude.{ℕ, ◌+◌, ◌*◌}

-- two for each connection, each loop, each of 64 rules and each address of a rule beyond its first, one for
-- each of 32 admin sessions and of 64 clients of the metrics, and sixteen others
abbrev pub needed : (pairs loops further : ℕ) → ℕ
needed pairs loops further = 2 * pairs + 2 * loops + 2 * further + 240
