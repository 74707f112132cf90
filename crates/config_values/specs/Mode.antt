-- Modes of files.
use Rattle.std.specs.Prelude.{◌≡◌, ◌==◌, ◌<◌, ◌+◌, ◌-◌, ◌*◌, ◌/◌, ◌%◌, ℕ, List, [], ◌∷◌, Option, Some, None, ◌&&◌, nat_le, if◌then◌else◌}
use Rattle.text_reading.specs.Reading.{◌>>=◌}

-- the digit of this value
abbrev pub octal_text : ℕ → ℕ
octal_text digit = 48 + digit

-- the text is "0" and the three octal digits of the mode
abbrev pub SpellsMode : List ℕ → ℕ → Type 0
SpellsMode text mode =
    (mode < 512) × (text ≡ 48 ∷ octal_text (mode / 64) ∷ octal_text (mode / 8 % 8) ∷ octal_text (mode % 8) ∷ [])

-- the value of an octal digit
abbrev pub octal_digit : ℕ → Option ℕ
octal_digit byte = if nat_le 48 byte && nat_le byte 55 then Some (byte - 48) else None

-- the mode of three octal digits
abbrev pub digits_mode : ℕ → ℕ → ℕ → Option ℕ
digits_mode owner group others = do
  a ← octal_digit owner
  b ← octal_digit group
  c ← octal_digit others
  Some (64 * a + 8 * b + c)

-- the mode that a text spells
unfoldable pub mode_at : List ℕ → Option ℕ
mode_at (first ∷ owner ∷ group ∷ others ∷ []) = if first == 48 then digits_mode owner group others else None
mode_at _ = None
