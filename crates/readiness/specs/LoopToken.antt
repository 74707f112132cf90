-- Tokens of a loop: a side in the low bit, a place in 16 bits, and a serial above them.
use Rattle.std.specs.Prelude.{ℕ, ◌+◌, ◌*◌, ◌/◌, ◌%◌, ◌==◌, if◌then◌else◌}
use Rattle.readiness.specs.declared.loop_token.Place.{Place}
use Rattle.readiness.specs.declared.loop_token.Side.{Side}
use Rattle.readiness.specs.declared.loop_token.Side.TheVariants.{First, Second}

-- the token of a side, 0 or 1, of a place and a serial
abbrev pub token_of : ℕ → ℕ → ℕ → ℕ
token_of side place serial = side + 2 * (place + 65536 * serial)

-- the number of the place in a token
abbrev pub place_in : ℕ → ℕ
place_in token = token / 2 % 65536

-- the serial in a token
abbrev pub serial_in : ℕ → ℕ
serial_in token = token / 2 / 65536

-- the side in a token
abbrev pub side_in : ℕ → Side
side_in token = if token % 2 == 0 then First else Second

-- the two tokens of a place and a serial
abbrev pub place_at : ℕ → ℕ → Place
place_at place serial = record { first = token_of 0 place serial; second = token_of 1 place serial }
