-- Commands, the one text of each, and what each brings to a session.
use Rattle.std.specs.Prelude.{◌≡◌, ◌≤◌, ℕ, List, [], ◌∷◌, ◌++◌, Option, Some, None, IfSome, codes}
use Rattle.std.specs.Fmt.{decimal}
use Rattle.relay_admin.specs.admin.TargetOrder.{IsTargetOrder, order_text}
use Rattle.relay_admin.specs.rules.Grammar.{space, time_text}
use Rattle.relay_admin.specs.declared.admin.command.Arguments.{Arguments}
use Rattle.relay_admin.specs.declared.admin.command.Arguments.TheVariants as behind
use Rattle.relay_admin.specs.declared.admin.command.Command.{Command}
use Rattle.relay_admin.specs.declared.admin.command.Command.TheVariants as command
use Rattle.relay_admin.specs.declared.admin.command.TheConstants.{MAX_ID, MAX_DEADLINE_MS}
use Rattle.relay_admin.specs.declared.admin.end.AdminEnd.{AdminEnd}
use Rattle.relay_admin.specs.declared.admin.end.AdminEnd.TheVariants as ends

-- the word of a command, and what stands behind it
abbrev pub words_of : Command → List ℕ × Arguments
words_of command.List = (codes "list", behind.Nothing)
words_of command.Totals = (codes "totals", behind.Nothing)
words_of command.Quit = (codes "quit", behind.Nothing)
words_of command.Stop = (codes "stop", behind.Nothing)
words_of (command.CloseConn id) = (codes "close", behind.Id id)
words_of (command.DrainConn id) = (codes "drain", behind.Id id)
words_of (command.DeadlineOf id after) = (codes "deadline", behind.IdAndDeadline id after)
words_of (command.Show id) = (codes "show", behind.Id id)
words_of command.ShowAll = (codes "show", behind.Nothing)
words_of command.Reload = (codes "reload", behind.Nothing)
words_of (command.Finish ms) = (codes "finish", behind.Ms ms)
words_of command.Targets = (codes "targets", behind.Nothing)
words_of (command.SetTarget order) = (codes "target", behind.Target order)

-- how the session ends by a command; where it doesn't, the desk is asked
abbrev pub end_of : Command → Option AdminEnd
end_of command.Quit = Some ends.Quit
end_of command.Stop = Some ends.Stop
end_of _ = None

-- what may name a connection
abbrev pub IsId : ℕ → Type 0
IsId id = (1 ≤ id) × (id ≤ MAX_ID)

-- milliseconds from now, or none
abbrev pub IsDeadline : Option ℕ → Type 0
IsDeadline after = IfSome after (λ ms. ms ≤ MAX_DEADLINE_MS)

-- arguments of the grammar
abbrev pub AreArguments : Arguments → Type 0
AreArguments behind.Nothing = Unit {0}
AreArguments (behind.Id id) = IsId id
AreArguments (behind.IdAndDeadline id after) = IsId id × IsDeadline after
AreArguments (behind.Ms ms) = ms ≤ MAX_DEADLINE_MS
AreArguments (behind.Target order) = IsTargetOrder order

-- a command of the grammar
abbrev pub IsCommand : Command → Type 0
IsCommand command = AreArguments (words_of command).1

-- the text of arguments, with one space before each
abbrev pub arguments_text : Arguments → List ℕ
arguments_text behind.Nothing = []
arguments_text (behind.Id id) = space ∷ decimal id
arguments_text (behind.IdAndDeadline id after) =
    space ∷ (decimal id ++ space ∷ time_text after)
arguments_text (behind.Ms ms) = space ∷ decimal ms
arguments_text (behind.Target order) = order_text order

-- the text of a command
abbrev pub command_text : Command → List ℕ
command_text command = (words_of command).0 ++ arguments_text (words_of command).1

-- the line spells the command
abbrev pub SpellsCommand : List ℕ → Command → Type 0
SpellsCommand line command = IsCommand command × (line ≡ command_text command)
