-- The replies to `show` without an id and to `targets`: a line for each that still stands, in turn.
use Rattle.std.specs.Prelude.{◌≡◌, ℕ, List, [], ◌∷◌, ◌++◌, Option, Some, None, map}
use Rattle.relay_admin.specs.declared.admin.command.Command.{Command}
use Rattle.relay_admin.specs.declared.admin.command.Command.TheVariants as command
use Rattle.relay_admin.specs.declared.admin.reply_text.TheConstants.{OUT_OF_MEMORY, SHOWN_ALL}
use Rattle.relay_admin.specs.admin.Reply.{Answer, ids, Exchange, looked_at, IsReplyTo}
use Rattle.relay_admin.specs.admin.Reply.{Key, Sight, sight_key, sight_line, side, target}

-- the looks at these, one at each in their order, and the text that they come to
pub data Shows : List Key → List Exchange → List ℕ → Type 0 where
  -- none is left
  shown_all : Shows [] [] SHOWN_ALL.now
  -- nothing stands there by now
  gone : {key : Key} {rest : List Key} {looks : List Exchange} {text : List ℕ}
      → Shows rest looks text → Shows (key ∷ rest) (looked_at key None ∷ looks) text
  -- what stands there has its line
  line : {rest : List Key} {looks : List Exchange} {text : List ℕ} (seen : Sight)
      → Shows rest looks text
      → Shows (sight_key seen ∷ rest) (looked_at (sight_key seen) (Some seen) ∷ looks) (sight_line seen ++ text)
  -- memory for its line was refused, which is the last line then
  refused : {rest : List Key} (seen : Sight)
      → Shows (sight_key seen ∷ rest) (looked_at (sight_key seen) (Some seen) ∷ []) OUT_OF_MEMORY.now

-- what has its lines where a command has this answer: what the ids stand for, or the targets with these
-- numbers
abbrev pub ids_to_show : Command → Answer → Option (List Key)
ids_to_show command.ShowAll (ids list) = Some (map side list)
ids_to_show command.Targets (ids list) = Some (map target list)
ids_to_show question answer = None

-- what a line has for an answer: these looks, and this text
abbrev pub AnswerComesTo : Option (List Key) → Answer → List Exchange → List ℕ → Type 0
AnswerComesTo None answer looks text = (looks ≡ []) × IsReplyTo answer text
AnswerComesTo (Some list) answer looks text = Shows list looks text

-- the reply to a line: a whole text, or lines for these
pub data Said : Type 0 where
  whole : List ℕ → Said
  each : List Key → Said

-- the looks and the text that a reply comes to
abbrev pub Comes : Said → List Exchange → List ℕ → Type 0
Comes (whole reply) looks text = (looks ≡ []) × (text ≡ reply)
Comes (each list) looks text = Shows list looks text
