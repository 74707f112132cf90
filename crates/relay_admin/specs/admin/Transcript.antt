-- An admin session on whole texts: which lines bring which questions, replies and end.
use Rattle.std.specs.Prelude.{◌≡◌, ◌≢◌, ◌≤◌, ◌<◌, ◌+◌, ◌∷◌, ◌++◌}
use Rattle.relay_admin.specs.Words.{ℕ, List, [], length}
use Rattle.relay_admin.specs.Words.{take, Option, Some, None, lines_of}
use Rattle.relay_admin.specs.declared.admin.command.Command.{Command}
use Rattle.relay_admin.specs.declared.admin.dialogue.TheConstants.{MAX_LINES, MAX_LINE_BYTES}
use Rattle.relay_admin.specs.declared.admin.end.AdminEnd.{AdminEnd}
use Rattle.relay_admin.specs.declared.admin.end.AdminEnd.TheVariants as ends
use Rattle.relay_admin.specs.admin.Command.{IsCommand, SpellsCommand, command_text, end_of}
use Rattle.relay_admin.specs.admin.Listing.{AnswerComesTo, ids_to_show}
use Rattle.relay_admin.specs.admin.Reply.{Answer, fine, reply_text, bad_command}
use Rattle.relay_admin.specs.admin.Reply.{Exchange, asked_for, HasAskedId, questions_of}

-- a line, what is asked for it, the reply, and how the session ends by it, if it does
pub data LineTranscript : List ℕ → List Exchange → List ℕ → Option AdminEnd → Type 0 where
  too_long : (line : List ℕ) → MAX_LINE_BYTES < length line
      → LineTranscript line [] bad_command (Some ends.TooLong)
  no_command : (line : List ℕ) → length line ≤ MAX_LINE_BYTES
      → ((c : Command) → IsCommand c → line ≢ command_text c)
      → LineTranscript line [] bad_command None
  finishes : (line : List ℕ) (c : Command) (end : AdminEnd)
      → length line ≤ MAX_LINE_BYTES → SpellsCommand line c → end_of c ≡ Some end
      → LineTranscript line [] (reply_text fine) (Some end)
  asks : (line : List ℕ) (c : Command) (answer : Answer) (looks : List Exchange) (reply : List ℕ)
      → length line ≤ MAX_LINE_BYTES → SpellsCommand line c → end_of c ≡ None
      → HasAskedId c answer → AnswerComesTo (ids_to_show c answer) answer looks reply
      → LineTranscript line (asked_for c answer ∷ looks) reply None

-- how a transcript stops: as the session ended, or because a reply couldn't be written or flushed
pub data Ending : Type 0 where
  ended : AdminEnd → Ending
  cut_off : Ending

-- lines, of which the first has this number, with the questions and replies that they bring, and
-- how that stops
pub data Transcript : ℕ → List (List ℕ) → List Exchange → List ℕ → Ending → Type 0 where
  -- no line is left
  no_line : {n : ℕ} → Transcript n [] [] [] (ended ends.End)
  -- a line that ends the session, whatever follows
  last_line : {n : ℕ} {line : List ℕ} {lines : List (List ℕ)} {exchanges : List Exchange}
      {reply : List ℕ} {end : AdminEnd}
      → LineTranscript line exchanges reply (Some end)
      → Transcript n (line ∷ lines) exchanges reply (ended end)
  -- the last line that a session may have, whatever follows
  line_limit : {line : List ℕ} {lines : List (List ℕ)} {exchanges : List Exchange} {reply : List ℕ}
      → LineTranscript line exchanges reply None
      → Transcript MAX_LINES (line ∷ lines) exchanges reply (ended ends.TooManyLines)
  -- a line after which the session goes on
  line_then : {n : ℕ} {line : List ℕ} {lines : List (List ℕ)} {exchanges more : List Exchange}
      {reply replies : List ℕ} {ending : Ending}
      → n < MAX_LINES → LineTranscript line exchanges reply None
      → Transcript (n + 1) lines more replies ending
      → Transcript n (line ∷ lines) (exchanges ++ more) (reply ++ replies) ending
  -- a line of whose reply a front was written, or the whole and not flushed; looks may be missing
  cut_line : {n : ℕ} {line : List ℕ} {lines : List (List ℕ)} {exchanges : List Exchange}
      {reply : List ℕ} {end : Option AdminEnd} (k : ℕ) (missing : List Exchange)
      → questions_of missing ≡ []
      → LineTranscript line (exchanges ++ missing) reply end
      → Transcript n (line ∷ lines) exchanges (take k reply) cut_off

-- the whole text brings these questions and replies, and stops so
abbrev pub IsTranscriptOf : List ℕ → List Exchange → List ℕ → Ending → Type 0
IsTranscriptOf text exchanges replies ending = Transcript 1 (lines_of text) exchanges replies ending
