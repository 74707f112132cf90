-- Numbers as words of the command line spell them.
use Rattle.std.specs.Prelude.{◌<◌, ℕ, List}
use Rattle.std.specs.Str.Parse.{digits_value, without_leading_plus, IsNumeral}

-- the number that a word spells, with a plus before it or not
abbrev pub number_in : List ℕ → ℕ
number_in word = digits_value 10 (without_leading_plus word)

-- the word spells a number below a limit
abbrev pub IsBelow : ℕ → List ℕ → Type 0
IsBelow limit word = IsNumeral 10 (without_leading_plus word) × (number_in word < limit)
