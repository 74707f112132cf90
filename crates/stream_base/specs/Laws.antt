-- What numbers' spellings and lines of texts have to be.
use Rattle.std.specs.Prelude.{◌≡◌, ◌<◌, ◌^◌, ℕ, List, [], ◌∷◌, ◌++◌, All, length}
use Rattle.std.specs.Fmt.{decimal}
use Rattle.stream_base.specs.Lines.{Lacks, ended_lines, line_feed, lines_of}

-- two numbers of one spelling are one
abbrev pub OneNumberASpelling : Type 0
OneNumberASpelling = (m n : ℕ) → m < 2 ^ 64 → n < 2 ^ 64 → decimal m ≡ decimal n → m ≡ n

-- lines, each with its line feed, are the lines of their text
abbrev pub EndedLinesAreLines : Type 0
EndedLinesAreLines = (lines : List (List ℕ)) → All (Lacks line_feed) lines
    → lines_of (ended_lines lines) ≡ lines

-- a last line without its line feed is one more
abbrev pub UnendedLineIsALine : Type 0
UnendedLineIsALine = (lines : List (List ℕ)) (last : List ℕ) → All (Lacks line_feed) lines
    → Lacks line_feed last → 0 < length last
    → lines_of (ended_lines lines ++ last) ≡ lines ++ last ∷ []

-- a text that is lines, each with its line feed, and what comes after them
pub record IsOfLines (text : List ℕ) : Type 0 where
  pub lines : List (List ℕ)
  pub last : List ℕ
  pub unbroken : All (Lacks line_feed) lines
  pub unended : Lacks line_feed last
  pub is : text ≡ ended_lines lines ++ last

-- each text is lines and what comes after them
abbrev pub EachTextIsOfLines : Type 0
EachTextIsOfLines = (text : List ℕ) → IsOfLines text
