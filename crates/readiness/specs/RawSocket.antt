-- What the system is given for an option of a socket.
use Rattle.std.specs.Prelude.{ℕ, List, ◌++◌, replicate}
use Rattle.std.specs.Int.{w32, to_le_bytes}

-- a number in the machine's order, in a buffer of sixteen bytes
abbrev pub option_bytes : ℕ → List ℕ
option_bytes number = to_le_bytes w32 number ++ replicate 12 0
