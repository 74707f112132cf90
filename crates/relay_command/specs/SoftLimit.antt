-- How many descriptors a process may have, by Linux's text of its limits.
use Rattle.std.specs.Prelude.{ℕ, ◌==◌, Bool, ◌&&◌, List, Option, length, take, drop, find, codes, nat_le}
use Rattle.std.specs.Option.{option_and_then}
use Rattle.std.specs.List.{before_first, prefix_len}
use Rattle.std.specs.Str.{bytes_eq}
use Rattle.stream_base.specs.Decimal.{number_of}
use Rattle.stream_base.specs.Lines.{lines_of}

-- a line begins "Max open files"
abbrev pub tells_open_files : List ℕ → Bool
tells_open_files line = nat_le 14 (length line) && bytes_eq (take 14 line) (codes "Max open files")

-- the byte is a blank
abbrev pub is_blank : ℕ → Bool
is_blank byte = byte == 32

-- the first word of a text, without the blanks round it
abbrev pub first_word : List ℕ → List ℕ
first_word text = before_first is_blank (drop (prefix_len is_blank text) text)

-- the first line that begins so tells the soft limit by its next word, if that is a number
abbrev pub soft_limit : List ℕ → Option ℕ
soft_limit limits =
    option_and_then (λ line. number_of (first_word (drop 14 line))) (find tells_open_files (lines_of limits))
