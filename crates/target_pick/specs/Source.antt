-- A client's address as a number.
use Rattle.std.specs.Prelude.{◌*◌, ◌%◌, ◌^◌, ℕ, List, fold, bit_xor}

-- FNV-1a of 64 bits
abbrev pub source_number : List ℕ → ℕ
source_number bytes =
    fold (λ (hash byte : ℕ). bit_xor hash byte * 1099511628211 % 2 ^ 64) 14695981039346656037 bytes
