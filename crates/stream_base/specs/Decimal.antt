-- The number that a text spells.
use Rattle.std.specs.Prelude.{◌^◌, ◌&&◌, ℕ, List, Option, Some, None, nat_lt, if◌then◌else◌}
use Rattle.std.specs.Fmt.{decimal}
use Rattle.std.specs.Str.{bytes_eq}
use Rattle.std.specs.Str.Parse.{digits_value}

-- the number below 2^64 whose spelling this is, if it is one's
abbrev pub number_of : List ℕ → Option ℕ
number_of text =
    let n = digits_value 10 text in
    if bytes_eq text (decimal n) && nat_lt n (2 ^ 64) then Some n else None
