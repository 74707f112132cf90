-- What a reader of lines has read, and what it heard.
use Rattle.std.specs.Prelude.{◌≡◌, ℕ, List, [], ◌++◌, if◌then◌else◌}
use Rattle.std.specs.Prelude.{Option, Some, Result, Ok}
use Rattle.std.specs.Io.KnownBytes.{Consumes, IsAtEnd}
use Rattle.std.specs.declared.io.Error.{Error}
use Rattle.stream_base.specs.LineReader.{Reading, Finds}
use Rattle.stream_base.specs.declared.line_reader.Found.{Found}
use Rattle.stream_base.specs.declared.line_reader.Found.TheVariants as found
use Rattle.net.specs.declared.lines.Heard.{Heard}
use Rattle.net.specs.declared.lines.Heard.TheVariants as heard
use Rattle.net.specs.declared.lines.Lines.{Lines}

-- what was found where this was heard: at the peer's end, no line feed
abbrev pub found_of : Heard → Found
found_of heard.Line = found.Line
found_of heard.TooLong = found.TooLong
found_of heard.End = found.Unended

-- the same, once these bytes came behind those ahead
abbrev pub with_more : Reading → List ℕ → Reading
with_more reading came = record { held = reading.held; ahead = reading.ahead ++ came }

-- without the line that is held
abbrev pub let_go : Reading → Reading
let_go reading = record { held = []; ahead = reading.ahead }

-- where the next call begins: a line that was told is let go
abbrev pub next_after : Heard → Reading → Reading
next_after heard.Line reading = let_go reading
next_after _ reading = reading

module _ {LIMIT : ℕ} where
  -- what a reader has read: the line that it is at, and the bytes behind it
  abbrev pub reading_of : Lines LIMIT → Reading
  reading_of lines = lines.reader

  -- the line that it is at
  abbrev pub line_in : Lines LIMIT → List ℕ
  line_in lines = (reading_of lines).held

  -- where its next call begins
  abbrev pub begun : Lines LIMIT → Reading
  begun lines = if lines.told then let_go lines.reader else lines.reader

  -- of this reading it heard this, and goes on behind it
  pub record Hears (heard : Heard) (old : Reading) (new : Lines LIMIT) : Type 0 where
    pub found : Finds LIMIT (found_of heard) old (reading_of new)
    pub next : begun new ≡ next_after heard (reading_of new)

  -- no line feed is in this reading, and all of it is held, for the next call to go on with
  pub record IsPending (old : Reading) (new : Lines LIMIT) : Type 0 where
    pub found : Finds LIMIT found.Unended old (reading_of new)
    pub next : begun new ≡ reading_of new

  -- the answer of a call that looked for a line in this reading: it was heard; else, as where a read failed,
  -- all of the reading is held
  abbrev pub IsAnswer : Option (Result Heard Error) → Reading → Lines LIMIT → Type 0
  IsAnswer (Some (Ok heard)) old new = Hears heard old new
  IsAnswer _ old new = IsPending old new

  -- a call took these bytes of a source, behind what was read before, and answers by all of them; and
  -- it says that they end only where no more is left of the source
  pub record HasLooked (answer : Option (Result Heard Error)) (old new : Lines LIMIT)
      (before after : Option (List ℕ)) : Type 0 where
    pub came : List ℕ
    pub read : Consumes before after came
    pub answered : IsAnswer answer (with_more (begun old) came) new
    pub end : answer ≡ Some (Ok heard.End) → IsAtEnd after
