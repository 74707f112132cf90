-- Times: a number and its unit.
use Rattle.std.specs.Prelude.{◌≡◌, ◌≤◌, ◌*◌, ℕ, List, [], ◌∷◌, ◌++◌, Option, Some, None, codes, if◌then◌else◌}
use Rattle.std.specs.Char.{is_ascii_digit}
use Rattle.std.specs.Fmt.{decimal}
use Rattle.std.specs.Str.{bytes_eq}
use Rattle.text_reading.specs.Reading.{◌>>=◌, number_within}
use Rattle.config_values.specs.declared.time.TheConstants.{DAY_MS}

-- how many milliseconds a unit has, and the most of it that a day has
abbrev pub unit_of : List ℕ → Option (ℕ × ℕ)
unit_of word =
    if bytes_eq word (codes "ms") then Some (1, 86400000)
    else if bytes_eq word (codes "s") then Some (1000, 86400)
    else if bytes_eq word (codes "m") then Some (60000, 1440)
    else if bytes_eq word (codes "h") then Some (3600000, 24)
    else None

-- the text is a number and a unit, which come to so many milliseconds, from 1 to those of a day
pub record SpellsTime (text : List ℕ) (ms : ℕ) : Type 0 where
  pub number : ℕ
  pub word : List ℕ
  pub unit : ℕ × ℕ
  pub spelled : text ≡ decimal number ++ word
  pub is_unit : unit_of word ≡ Some unit
  pub value : ms ≡ number * unit.0
  pub some : 1 ≤ number
  pub at_most_a_day : ms ≤ DAY_MS

-- the digits at the front
abbrev pub digits_before : List ℕ → List ℕ
digits_before [] = []
digits_before (x ∷ text) = if is_ascii_digit x then x ∷ digits_before text else []

-- what stands behind them
abbrev pub behind_digits : List ℕ → List ℕ
behind_digits [] = []
behind_digits (x ∷ text) = if is_ascii_digit x then behind_digits text else x ∷ text

-- the milliseconds that a text spells
unfoldable pub time_at : List ℕ → Option ℕ
time_at text = do
  unit ← unit_of (behind_digits text)
  number ← number_within 1 unit.1 (digits_before text)
  Some (number * unit.0)
