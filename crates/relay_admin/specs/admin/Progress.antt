-- How far a session has come, and what bytes do to it.
use Rattle.std.specs.Prelude.{◌≡◌, ◌≢◌, ◌≤◌, ◌<◌, ◌+◌, ◌++◌, ◌⊎◌}
use Rattle.relay_admin.specs.Words.{ℕ, List, []}
use Rattle.relay_admin.specs.Words.{length, Option, Some, None, lines_of}
use Rattle.relay_admin.specs.Words.{line_feed, Lacks, EndsLines}
use Rattle.relay_admin.specs.declared.admin.end.AdminEnd.{AdminEnd}
use Rattle.relay_admin.specs.declared.admin.end.AdminEnd.TheVariants as ends
use Rattle.relay_admin.specs.declared.admin.dialogue.Dialogue.{Dialogue}
use Rattle.relay_admin.specs.declared.admin.dialogue.TheConstants.{MAX_LINES, MAX_LINE_BYTES}
use Rattle.relay_admin.specs.admin.Listing.{Said, Comes}
use Rattle.relay_admin.specs.admin.Reply.{Exchange, AddsExchanges}
use Rattle.relay_admin.specs.admin.Transcript.{LineTranscript, Ending, ended, Transcript}

-- the number of the line that is read, and what has come of it
pub record Position : Type 0 where
  pub number : ℕ
  pub kept : List ℕ

-- nothing is read
abbrev pub start : Position
start = record { number = 1; kept = [] }

-- the position of a session
abbrev pub position : Dialogue → Position
position dialogue = record { number = dialogue.number; kept = dialogue.lines.held }

-- the bytes that were read and not yet looked at
abbrev pub ahead_of : Dialogue → List ℕ
ahead_of dialogue = dialogue.lines.ahead

-- a session that may read on
pub record IsReady (at : Position) : Type 0 where
  pub numbered : at.number ≤ MAX_LINES
  pub short : length at.kept ≤ MAX_LINE_BYTES
  pub unended : Lacks line_feed at.kept

-- what one line brought, with whatever its reply then comes to
pub record AnswersLine (asked asked' : Option (List Exchange)) (line : List ℕ) (said : Said)
    (end : Option AdminEnd) : Type 0 where
  pub exchanges : List Exchange
  pub told : AddsExchanges asked asked' exchanges
  pub are : (looks : List Exchange) (text : List ℕ) → Comes said looks text
      → LineTranscript line (exchanges ++ looks) text end

-- these bytes end some lines, which bring these questions and replies and lead on to the new
-- position
pub record Advances (old new : Position) (bytes : List ℕ) (exchanges : List Exchange)
    (replies : List ℕ) : Type 0 where
  pub lines : List (List ℕ)
  pub ends : EndsLines old.kept bytes lines new.kept
  pub carry : (rest : List (List ℕ)) (more : List Exchange) (text : List ℕ) (ending : Ending)
      → Transcript new.number rest more text ending
      → Transcript old.number (lines ++ rest) (exchanges ++ more) (replies ++ text) ending

-- with these bytes the transcript stops, whatever follows
abbrev pub Closes : Position → List ℕ → List Exchange → List ℕ → Ending → Type 0
Closes old bytes exchanges replies ending =
    (rest : List ℕ) → Transcript old.number (lines_of (old.kept ++ (bytes ++ rest))) exchanges
    replies ending

-- what the reply to a whole line came to: the session goes on, or it ends by the line, or since no
-- line more may come
abbrev pub ReplyComesTo : Option AdminEnd → Position → Position
    → Option (List Exchange) → Option (List Exchange) → Said → Type 0
ReplyComesTo None old new asked asked' said =
    (old.number < MAX_LINES) × (new ≡ record { number = old.number + 1; kept = [] })
    × AnswersLine asked asked' old.kept said None
ReplyComesTo (Some end) old new asked asked' said =
    (new ≡ old) × (AnswersLine asked asked' old.kept said (Some end)
    ⊎ (old.number ≡ MAX_LINES) × (end ≡ ends.TooManyLines)
    × AnswersLine asked asked' old.kept said None)

-- what was asked meanwhile is so
pub record Asks (asked asked' : Option (List Exchange)) (P : List Exchange → Type 0) : Type 0 where
  pub exchanges : List Exchange
  pub told : AddsExchanges asked asked' exchanges
  pub holds : P exchanges

-- a line among the bytes ahead brings this reply, and the session goes on behind it
pub record GoesOnBy (said : Said) (old new : Dialogue) (asked asked' : Option (List Exchange))
    : Type 0 where
  pub bytes : List ℕ
  pub some : 0 < length bytes
  pub cut : ahead_of old ≡ bytes ++ ahead_of new
  pub brings : Asks asked asked' (λ exchanges. (looks : List Exchange) (text : List ℕ)
      → Comes said looks text
      → Advances (position old) (position new) bytes (exchanges ++ looks) text)

-- what the bytes ahead came to: no line is whole, or one has its reply, and may end the session
abbrev pub NextComesTo : Option (Said × Option AdminEnd) → Dialogue → Dialogue
    → Option (List Exchange) → Option (List Exchange) → Type 0
NextComesTo None old new asked asked' =
    (ahead_of new ≡ []) × (asked' ≡ asked)
    × Advances (position old) (position new) (ahead_of old) [] []
NextComesTo (Some (said, None)) old new asked asked' = GoesOnBy said old new asked asked'
NextComesTo (Some (said, Some end)) old new asked asked' =
    (end ≢ ends.End) × Asks asked asked' (λ exchanges. (looks : List Exchange) (text : List ℕ)
    → Comes said looks text
    → Closes (position old) (ahead_of old) (exchanges ++ looks) text (ended end))

-- what the end of the bytes comes to, where a last line has its reply
abbrev pub LastComesTo : Option (Said × AdminEnd) → Position
    → Option (List Exchange) → Option (List Exchange) → Type 0
LastComesTo None old asked asked' = (asked' ≡ asked)
    × Transcript old.number (lines_of old.kept) [] [] (ended ends.End)
LastComesTo (Some told) old asked asked' = Asks asked asked'
    (λ exchanges. (looks : List Exchange) (text : List ℕ) → Comes told.0 looks text
    → Transcript old.number (lines_of old.kept) (exchanges ++ looks) text (ended told.1))
