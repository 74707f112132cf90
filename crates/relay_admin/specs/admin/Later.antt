-- A line whose question is answered later: the session stands at it, and goes on once it is answered.
use Rattle.std.specs.Prelude.{◌≡◌, ◌<◌, ◌+◌, ◌∷◌, ◌++◌, unwrap_or}
use Rattle.relay_admin.specs.Words.{ℕ, List, [], length, Option, Some, None, IfSome, EndsLines}
use Rattle.relay_admin.specs.declared.admin.answers.LateAnswer.{LateAnswer}
use Rattle.relay_admin.specs.declared.admin.answers.LateAnswer.TheVariants as late
use Rattle.relay_admin.specs.declared.admin.command.Command.{Command}
use Rattle.relay_admin.specs.declared.admin.command.Command.TheVariants as command
use Rattle.relay_admin.specs.declared.admin.dialogue.Dialogue.{Dialogue}
use Rattle.relay_admin.specs.declared.admin.dialogue.TheConstants.{MAX_LINES}
use Rattle.relay_admin.specs.declared.admin.end.AdminEnd.{AdminEnd}
use Rattle.relay_admin.specs.declared.admin.end.AdminEnd.TheVariants as ends
use Rattle.relay_admin.specs.declared.admin.next_line.NextLine.{NextLine}
use Rattle.relay_admin.specs.declared.admin.next_line.NextLine.TheVariants as next
use Rattle.relay_admin.specs.admin.Answers.{of_late}
use Rattle.relay_admin.specs.admin.Command.{SpellsCommand}
use Rattle.relay_admin.specs.admin.Listing.{Said, whole}
use Rattle.relay_admin.specs.admin.Parts.{said_of}
use Rattle.relay_admin.specs.admin.Progress.{Position, IsReady, position, ahead_of}
use Rattle.relay_admin.specs.admin.Progress.{AnswersLine, ReplyComesTo, NextComesTo, LastComesTo}
use Rattle.relay_admin.specs.admin.Reply.{Answer, Exchange, Exchanges, AddsExchanges, reply_text}

-- the questions that may be answered later
abbrev pub MayBeLater : Command → Type 0
MayBeLater (command.CloseConn id) = Unit {0}
MayBeLater (command.DrainConn id) = Unit {0}
MayBeLater (command.DeadlineOf id after) = Unit {0}
MayBeLater other = ⊥

-- the late answer is one to this question
abbrev pub IsAnswerTo : Command → LateAnswer → Type 0
IsAnswerTo (command.CloseConn id) (late.Close answer) = Unit {0}
IsAnswerTo (command.DrainConn id) (late.Drain answer) = Unit {0}
IsAnswerTo (command.DeadlineOf id after) (late.Deadline answer) = Unit {0}
IsAnswerTo question answer = ⊥

-- the question was answered; or it is answered later, and no exchange was made
abbrev pub MayExchange : Option (List Exchange) → Option (List Exchange) → Command → Option Answer
    → Type 0
MayExchange before after question (Some answer) = Exchanges before after question answer
MayExchange before after question None = AddsExchanges before after []

-- an admin session: its dialogue, and the question of the line that it stands at, if it is answered
-- later
pub record Session : Type 0 where
  pub dialogue : Dialogue
  pub held : Option Command

-- a line that asks this and may be answered later
pub record IsHeldLine (line : List ℕ) (question : Command) : Type 0 where
  pub spells : SpellsCommand line question
  pub later : MayBeLater question

-- a session that may read on, or stands at such a line
pub record IsSession (session : Session) : Type 0 where
  pub ready : IsReady (position session.dialogue)
  pub held : IfSome session.held
      (λ question. IsHeldLine (position session.dialogue).kept question)

-- these bytes end a line that asks this; no answer is there, so nothing is told and nothing written,
-- and the session stands at the line
pub record HoldsLine (question : Command) (old new : Dialogue)
    (asked asked' : Option (List Exchange)) : Type 0 where
  pub bytes : List ℕ
  pub some : 0 < length bytes
  pub cut : ahead_of old ≡ bytes ++ ahead_of new
  pub ends : EndsLines (position old).kept bytes ((position new).kept ∷ []) []
  pub number : (position new).number ≡ (position old).number
  pub line : IsHeldLine (position new).kept question
  pub unasked : AddsExchanges asked asked' []

-- the same of a last line that lacks its line feed
pub record HoldsLastLine (question : Command) (old new : Dialogue)
    (asked asked' : Option (List Exchange)) : Type 0 where
  pub same : position new ≡ position old
  pub some : 0 < length (position old).kept
  pub line : IsHeldLine (position old).kept question
  pub unasked : AddsExchanges asked asked' []

-- what has come of a line, which is whole, at a desk that may answer later
abbrev pub LineComesBy : {A : Type 0} → NextLine A → Option (List Exchange) → Option (List Exchange)
    → List ℕ → Type 0
LineComesBy next.Unended asked asked' line = ⊥
LineComesBy (next.Reply reply end) asked asked' line =
    AnswersLine asked asked' line (said_of reply) end
LineComesBy (next.Held question) asked asked' line =
    IsHeldLine line question × AddsExchanges asked asked' []

-- the same, and where the session stands then
abbrev pub WholeLineComesTo : {A : Type 0} → NextLine A → Position → Position
    → Option (List Exchange) → Option (List Exchange) → Type 0
WholeLineComesTo next.Unended old new asked asked' = ⊥
WholeLineComesTo (next.Reply reply end) old new asked asked' =
    ReplyComesTo end old new asked asked' (said_of reply)
WholeLineComesTo (next.Held question) old new asked asked' =
    (new ≡ old) × IsHeldLine old.kept question × AddsExchanges asked asked' []

-- what has come of the next line
abbrev pub NextLineComesTo : {A : Type 0} → NextLine A → Dialogue → Dialogue
    → Option (List Exchange) → Option (List Exchange) → Type 0
NextLineComesTo next.Unended old new asked asked' = NextComesTo None old new asked asked'
NextLineComesTo (next.Reply reply end) old new asked asked' =
    NextComesTo (Some (said_of reply, end)) old new asked asked'
NextLineComesTo (next.Held question) old new asked asked' = HoldsLine question old new asked asked'

-- what has come of a last line that lacks its line feed; its reply comes with an end
abbrev pub LastLineComesTo : {A : Type 0} → NextLine A → Dialogue → Dialogue
    → Option (List Exchange) → Option (List Exchange) → Type 0
LastLineComesTo next.Unended old new asked asked' = LastComesTo None (position old) asked asked'
LastLineComesTo (next.Reply reply (Some end)) old new asked asked' =
    LastComesTo (Some (said_of reply, end)) (position old) asked asked'
LastLineComesTo (next.Reply reply None) old new asked asked' = ⊥
LastLineComesTo (next.Held question) old new asked asked' = HoldsLastLine question old new asked asked'

-- the question that what has come of a line leaves open, if it does
abbrev pub held_by : {A : Type 0} → NextLine A → Option Command
held_by next.Unended = None
held_by (next.Reply reply end) = None
held_by (next.Held question) = Some question

-- how a session goes on behind a line that ends it so, if it does: at line 65,536 it ends
abbrev pub GoesBehind : Option AdminEnd → Option AdminEnd → Position → Position → Type 0
GoesBehind (Some end) result old new = (result ≡ Some end) × (new ≡ old)
GoesBehind None None old new =
    (old.number < MAX_LINES) × (new ≡ record { number = old.number + 1; kept = [] })
GoesBehind None (Some end) old new =
    (old.number ≡ MAX_LINES) × (end ≡ ends.TooManyLines) × (new ≡ old)

-- the line at which the session stood has the reply to this answer, and the session goes on behind it
pub record AnswersHeld (answer : Answer) (end : Option AdminEnd) (old new : Dialogue) (said : Said)
    : Type 0 where
  pub said_is : said ≡ whole (reply_text answer)
  pub behind : GoesBehind None end (position old) (position new)
  pub ahead : ahead_of new ≡ ahead_of old

-- the session stood at a line that has this answer; now it stands at none
pub record IsAnswered (answer : LateAnswer) (end : Option AdminEnd) (old new : Session) (said : Said)
    : Type 0 where
  pub question : Command
  pub held : old.held ≡ Some question
  pub is_answer : IsAnswerTo question answer
  pub released : new.held ≡ None
  pub answers : AnswersHeld (of_late answer) end old.dialogue new.dialogue said

-- the session stands at no line that may have this answer
abbrev pub TakesNoAnswer : LateAnswer → Session → Type 0
TakesNoAnswer answer session =
    (question : Command) → session.held ≡ Some question → IsAnswerTo question answer → ⊥

-- a line that is answered later is answered as if at once: the same reply, exchange and end, and
-- the session stands where it would stand
abbrev pub LaterIsAsAtOnce : Type 0
LaterIsAsAtOnce =
    (question : Command) (answer : Answer) (end : Option AdminEnd) (old held new : Dialogue)
    (said : Said) (asked asked' asked'' : Option (List Exchange))
    → IsReady (position held) → HoldsLine question old held asked asked'
    → AnswersHeld answer end held new said → Exchanges asked' asked'' question answer
    → NextComesTo (Some (said, end)) old new asked asked''

-- so is a last line that lacks its line feed; where the line doesn't end the session, the text's end
-- does
abbrev pub LastLaterIsAsAtOnce : Type 0
LastLaterIsAsAtOnce =
    (question : Command) (answer : Answer) (end : Option AdminEnd) (old held new : Dialogue)
    (said : Said) (asked asked' asked'' : Option (List Exchange))
    → IsReady (position old) → HoldsLastLine question old held asked asked'
    → AnswersHeld answer end held new said → Exchanges asked' asked'' question answer
    → LastComesTo (Some (said, unwrap_or end ends.End)) (position old) asked asked''
