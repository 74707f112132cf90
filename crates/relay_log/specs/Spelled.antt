-- What the characters of a JSON string spell, by RFC 8259, as far as a line of the log needs it.
use Rattle.std.specs.Prelude.{◌≡◌, ◌≢◌, ◌≤◌, ◌<◌, ◌+◌, ◌*◌, ◌⊎◌, ℕ, List, [], ◌∷◌}
use Rattle.std.specs.Char.{digit_char}
use Rattle.relay_log.specs.Json.{string_content}

-- the characters between the quotation marks of a string, and the text that they spell: a byte that is
-- no control character, no quotation mark and no backslash is itself; behind a backslash these two are
-- themselves; `\u00` and two hexadecimal digits are the byte of that number, below 128
pub data SpellsText : List ℕ → List ℕ → Type 0 where
  nothing : SpellsText [] []
  itself : {characters text : List ℕ} (byte : ℕ) → 32 ≤ byte → byte ≢ 34 → byte ≢ 92 →
      SpellsText characters text → SpellsText (byte ∷ characters) (byte ∷ text)
  behind_backslash : {characters text : List ℕ} (byte : ℕ) → (byte ≡ 34) ⊎ (byte ≡ 92) →
      SpellsText characters text → SpellsText (92 ∷ byte ∷ characters) (byte ∷ text)
  by_number : {characters text : List ℕ} (high low : ℕ) → high < 8 → low < 16 → SpellsText characters text →
      SpellsText (92 ∷ 117 ∷ 48 ∷ 48 ∷ digit_char high ∷ digit_char low ∷ characters) ((16 * high + low) ∷ text)

-- what a string has for a text spells it, whatever bytes the text has
abbrev pub EachTextIsSpelled : Type 0
EachTextIsSpelled = (text : List ℕ) → SpellsText (string_content text) text
