-- Tokens: a key in the low 12 bits, and an id above them.
use Rattle.std.specs.Prelude.{ℕ, ◌+◌, ◌*◌, ◌/◌, ◌%◌}

-- the token of a key and an id
abbrev pub token_of : ℕ → ℕ → ℕ
token_of key id = key + 4096 * id

-- the key in a token
abbrev pub key_of : ℕ → ℕ
key_of token = token % 4096

-- the id in a token
abbrev pub id_of : ℕ → ℕ
id_of token = token / 4096
