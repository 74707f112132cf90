-- Tokens tell their key and their id.
use Rattle.std.proofs.Common.{◌≡◌, ◌∙◌, ℕ, ◌/◌, ◌<◌, arith}
use Rattle.std.proofs.Math.Nat.{add-mul-mod_self_left, mod-eq_of_lt}
use Rattle.conntable.specs.Token.{token_of, key_of}

-- the key in a token that is made of a key and an id
pub key_of-token_of : (key id : ℕ) → key < 4096 → key_of (token_of key id) ≡ key
key_of-token_of key id h = add-mul-mod_self_left key 4096 id ∙ mod-eq_of_lt h

-- the id in it
pub id_in-token_of : (key id : ℕ) → key < 4096 → token_of key id / 4096 ≡ id
id_in-token_of key id h = omega arith

-- two tokens with keys below 4,096 are equal only if their ids are
pub same_id : (key id other_key other_id : ℕ) → key < 4096 → other_key < 4096 →
    token_of key id ≡ token_of other_key other_id → id ≡ other_id
same_id key id other_key other_id h k same = omega arith
