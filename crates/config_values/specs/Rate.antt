-- Rates: so many in a second, a minute or an hour.
use Rattle.std.specs.Prelude.{◌≡◌, ◌≤◌, ℕ, List, ◌∷◌, ◌++◌, Option, Some, None, codes, if◌then◌else◌}
use Rattle.std.specs.Fmt.{decimal}
use Rattle.std.specs.Str.{bytes_eq}
use Rattle.text_reading.specs.Reading.{◌>>=◌, number_within, split_at_first}
use Rattle.config_values.specs.declared.rate.Rate.{Rate}
use Rattle.config_values.specs.declared.rate.TheConstants.{MAX_RATE}

-- how many seconds a unit has
abbrev pub unit_seconds : List ℕ → Option ℕ
unit_seconds unit =
    if bytes_eq unit (codes "s") then Some 1
    else if bytes_eq unit (codes "m") then Some 60
    else if bytes_eq unit (codes "h") then Some 3600
    else None

-- the text is a number, from 1 to the greatest of a rate, a slash and a unit
pub record SpellsRate (text : List ℕ) (rate : Rate) : Type 0 where
  pub unit : List ℕ
  pub spelled : text ≡ decimal rate.count ++ 47 ∷ unit
  pub is_unit : unit_seconds unit ≡ Some rate.seconds
  pub some : 1 ≤ rate.count
  pub most : rate.count ≤ MAX_RATE

-- the rate that a text spells
unfoldable pub rate_at : List ℕ → Option Rate
rate_at text = do
  parts ← split_at_first 47 text
  seconds ← unit_seconds parts.1
  count ← number_within 1 MAX_RATE parts.0
  Some (record { count = count; seconds = seconds })
