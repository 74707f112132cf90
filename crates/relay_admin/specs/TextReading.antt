-- Reading a text from left to right, as the code does. Public clauses cite `Views` alone.
use Rattle.std.specs.Prelude.{◌≡◌, ◌==◌, ◌+◌, ◌-◌, ◌*◌, ℕ, ◌&&◌, List, [], ◌∷◌, Option, Some, None}
use Rattle.std.specs.Prelude.{nat_le, codes, if◌then◌else◌}
use Rattle.std.specs.Fmt.{decimal}
use Rattle.std.specs.Str.{bytes_eq}

infixl 10 ◌>>=◌
-- reading on with what was read
abbrev pub ◌>>=◌ : {A B : Type 0} → Option A → (A → Option B) → Option B
(Some x) >>= f = f x
None >>= f = None

-- what a function returned is, by its view, what reading gives
abbrev pub Views : {X Y : Type 0} → (X → Y) → Option X → Option Y → Type 0
Views view (Some x) read = read ≡ Some (view x)
Views view None read = read ≡ None

-- the byte goes onto the first part
abbrev pub onto_first : ℕ → Option (List ℕ × List ℕ) → Option (List ℕ × List ℕ)
onto_first byte (Some parts) = Some (byte ∷ parts.0, parts.1)
onto_first byte None = None

-- what stands before the first such byte, and what stands behind it
unfoldable pub split_at_first : ℕ → List ℕ → Option (List ℕ × List ℕ)
split_at_first byte [] = None
split_at_first byte (x ∷ text) =
    if x == byte then Some ([], text) else onto_first x (split_at_first byte text)

-- the value of the digits behind those that have this value
abbrev pub value_from : ℕ → List ℕ → ℕ
value_from value [] = value
value_from value (digit ∷ digits) = value_from (10 * value + (digit - 48)) digits

-- the number from low to high whose decimal text this is
unfoldable pub number_within : ℕ → ℕ → List ℕ → Option ℕ
number_within low high text =
    if bytes_eq text (decimal (value_from 0 text))
    && (nat_le low (value_from 0 text) && nat_le (value_from 0 text) high)
    then Some (value_from 0 text) else None

-- so many milliseconds from low to high, or never
unfoldable pub time_within : ℕ → ℕ → List ℕ → Option (Option ℕ)
time_within low high text =
    if bytes_eq text (codes "never") then Some None
    else (number_within low high text >>= λ ms. Some (Some ms))
