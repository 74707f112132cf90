-- The lines of a text.
use Rattle.std.specs.Prelude.{◌≡◌, ◌≢◌, ◌==◌, ℕ, List, [], ◌∷◌, ◌++◌, if◌then◌else◌}

-- the byte that ends a line
abbrev pub line_feed : ℕ
line_feed = 0x0a

-- the lines, of which the first begins with this byte
abbrev pub onto_first_line : ℕ → List (List ℕ) → List (List ℕ)
onto_first_line b [] = (b ∷ []) ∷ []
onto_first_line b (line ∷ lines) = (b ∷ line) ∷ lines

-- the lines of a text, each without its line feed; after the last line feed there is none
abbrev pub lines_of : List ℕ → List (List ℕ)
lines_of [] = []
lines_of (b ∷ text) =
    if b == line_feed then [] ∷ lines_of text else onto_first_line b (lines_of text)

-- the byte isn't in the text
abbrev pub Lacks : ℕ → List ℕ → Type 0
Lacks b [] = Unit {0}
Lacks b (c ∷ text) = (c ≢ b) × Lacks b text

-- the lines one after the other, each with its line feed
abbrev pub ended_lines : List (List ℕ) → List ℕ
ended_lines [] = []
ended_lines (line ∷ lines) = line ++ line_feed ∷ ended_lines lines

-- after what was kept of a line, these bytes end these lines and leave this of the next, whatever
-- follows
pub record EndsLines (kept bytes : List ℕ) (lines : List (List ℕ)) (kept' : List ℕ) : Type 0 where
  pub same : kept ++ bytes ≡ ended_lines lines ++ kept'
  pub cut : (rest : List ℕ) → lines_of (kept ++ (bytes ++ rest)) ≡ lines ++ lines_of (kept' ++ rest)
