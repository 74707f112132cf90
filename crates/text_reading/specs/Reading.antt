-- Reading a text from left to right: its parts, and its numbers.
use Rattle.std.specs.Prelude.{◌≡◌, ◌==◌, ◌+◌, ◌-◌, ◌*◌, ◌≤◌, ℕ, ◌&&◌, List, [], ◌∷◌, ◌++◌, Option, Some}
use Rattle.std.specs.Prelude.{None, nat_le, if◌then◌else◌}
use Rattle.std.specs.Fmt.{decimal}
use Rattle.std.specs.Str.{bytes_eq}
use Rattle.stream_base.specs.Lines.{Lacks}

infixl 10 ◌>>=◌
-- reading on with what was read
abbrev pub ◌>>=◌ : {A B : Type 0} → Option A → (A → Option B) → Option B
(Some x) >>= f = f x
None >>= f = None

-- what a function returned is, by its view, what reading gives
abbrev pub Views : {X Y : Type 0} → (X → Y) → Option X → Option Y → Type 0
Views view (Some x) read = read ≡ Some (view x)
Views view None read = read ≡ None

-- the text is these two parts with the byte between them, and the first part lacks it
abbrev pub Splits : ℕ → List ℕ → List ℕ × List ℕ → Type 0
Splits byte text parts = (text ≡ parts.0 ++ byte ∷ parts.1) × Lacks byte parts.0

-- the text is the one spelling of this number, which is from low to high
abbrev pub SpellsNumber : ℕ → ℕ → List ℕ → ℕ → Type 0
SpellsNumber low high text n = (text ≡ decimal n) × (low ≤ n) × (n ≤ high)

-- ---- The same as functions of the text, which callers read on with

-- the byte goes onto the first part
abbrev pub onto_first : ℕ → Option (List ℕ × List ℕ) → Option (List ℕ × List ℕ)
onto_first byte (Some parts) = Some (byte ∷ parts.0, parts.1)
onto_first byte None = None

-- what stands before the first such byte, and what stands behind it
unfoldable pub split_at_first : ℕ → List ℕ → Option (List ℕ × List ℕ)
split_at_first byte [] = None
split_at_first byte (x ∷ text) =
    if x == byte then Some ([], text) else onto_first x (split_at_first byte text)

-- the value of the digits behind those that have this value
abbrev pub value_from : ℕ → List ℕ → ℕ
value_from value [] = value
value_from value (digit ∷ digits) = value_from (10 * value + (digit - 48)) digits

-- the number from low to high whose decimal text this is
unfoldable pub number_within : ℕ → ℕ → List ℕ → Option ℕ
number_within low high text =
    if bytes_eq text (decimal (value_from 0 text))
    && (nat_le low (value_from 0 text) && nat_le (value_from 0 text) high)
    then Some (value_from 0 text) else None
