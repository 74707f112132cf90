-- What a reader of lines has read and not yet given, and what it finds there.
use Rattle.std.specs.Prelude.{◌≡◌, ◌≢◌, ℕ, List, [], ◌∷◌, ◌++◌, length}
use Rattle.stream_base.specs.Lines.{Lacks, line_feed}
use Rattle.stream_base.specs.declared.line_reader.Found.{Found}
use Rattle.stream_base.specs.declared.line_reader.Found.TheVariants.{Line, TooLong, Unended}

-- the bytes of the line that is held, and those that were read and not yet looked at
pub record Reading : Type 0 where
  pub held : List ℕ
  pub ahead : List ℕ

-- before the first read
abbrev pub nothing_read : Reading
nothing_read = record { held = []; ahead = [] }

-- this part of the bytes ahead, in which is no line feed, went to the line; behind it these are
-- left
pub record TakesPart (old new : Reading) (part left : List ℕ) : Type 0 where
  pub unbroken : Lacks line_feed part
  pub cut : old.ahead ≡ part ++ left
  pub held : new.held ≡ old.held ++ part

-- what the bytes ahead say of the line, where a line has so many bytes at most
abbrev pub Finds : ℕ → Found → Reading → Reading → Type 0
Finds limit Line old new = (part : List ℕ) × TakesPart old new part (line_feed ∷ new.ahead)
Finds limit TooLong old new =
    (part : List ℕ) × TakesPart old new part new.ahead × (length new.held ≡ limit)
    × (byte : ℕ) × (rest : List ℕ) × (new.ahead ≡ byte ∷ rest) × (byte ≢ line_feed)
Finds limit Unended old new = TakesPart old new old.ahead [] × (new.ahead ≡ [])
