-- Fronts of texts, and places in them.
use Rattle.std.specs.Prelude.{◌≡◌, ◌<◌, ◌≤◌, ◌==◌, ◌&&◌, ◌+◌, ◌-◌, ◌^◌, ℕ, List, Bool, true, false, All, not}
use Rattle.std.specs.Prelude.{count_by, drop, length, min, nat_le, slice_index, take}
use Rattle.std.specs.Str.{IsCharBoundary}

-- of the fronts of whole characters that have at most so many bytes this is the longest
pub record IsLongestFront (most : ℕ) (text front : List ℕ) : Type 0 where
  pub begins : front ≡ take (length front) text
  pub fits : length front ≤ most
  pub longest : (size : ℕ) → size ≤ most → IsCharBoundary text size → size ≤ length front

-- a byte ends a line
abbrev pub ends_line : ℕ → Bool
ends_line byte = byte == 10

-- a byte begins a character
abbrev pub begins_character : ℕ → Bool
begins_character byte = not (nat_le 128 byte && nat_le byte 191)

-- the byte behind a front is in this line, counted from 1
abbrev pub IsInLine : List ℕ → ℕ → Type 0
IsInLine front line = line ≡ min (1 + count_by ends_line front) (2 ^ 64 - 1)

-- the byte behind a front is in this column, counted from 1: so many characters of its line are ahead
pub record IsInColumn (front : List ℕ) (column : ℕ) : Type 0 where
  pub start : ℕ
  pub within : start ≤ length front
  pub begins : 0 < start → ends_line (slice_index front (start - 1)) ≡ true
  pub one_line : All (λ byte. ends_line byte ≡ false) (drop start front)
  pub counted : column ≡ min (1 + count_by begins_character (drop start front)) (2 ^ 64 - 1)
