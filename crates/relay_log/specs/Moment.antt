-- How a moment is spelled.
use Rattle.std.specs.Prelude.{ℕ, ◌+◌, ◌/◌, ◌%◌, List, [], ◌∷◌, ◌++◌, unsigned_abs}
use Rattle.relay_log.specs.declared.moment.Moment.{Moment}

-- the last decimal digit of a number
abbrev pub digit : ℕ → ℕ
digit n = 48 + n % 10

-- a number's last digits, the greater first
abbrev pub two_digits : ℕ → List ℕ
two_digits n = digit (n / 10) ∷ digit n ∷ []

abbrev pub three_digits : ℕ → List ℕ
three_digits n = digit (n / 100) ∷ two_digits n

abbrev pub four_digits : ℕ → List ℕ
four_digits n = digit (n / 1000) ∷ three_digits n

-- year, month and day of the date, with a hyphen between
abbrev pub date_text : Moment → List ℕ
date_text m = four_digits (unsigned_abs m.date.year) ++ 45 ∷ two_digits m.date.month
    ++ 45 ∷ two_digits m.date.day

-- hours, minutes and seconds with a colon between, a point, and the milliseconds
abbrev pub time_text : ℕ → List ℕ
time_text ms = two_digits (ms / 3600000) ++ 58 ∷ two_digits (ms / 60000 % 60)
    ++ 58 ∷ two_digits (ms / 1000 % 60) ++ 46 ∷ three_digits (ms % 1000)

-- the date, a T, the time, a Z: `2026-11-24T15:21:47.123Z`
unfoldable pub moment_text : Moment → List ℕ
moment_text m = date_text m ++ 84 ∷ time_text m.ms_of_day ++ 90 ∷ []
