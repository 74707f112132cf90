-- Reading a line from left to right, as the code does. No public clause cites this module.
use Rattle.std.specs.Prelude.{ℕ, List, Option, Some, None, codes, if◌then◌else◌}
use Rattle.std.specs.Str.{bytes_eq}
use Rattle.relay_admin.specs.admin.TargetOrder.{target_order_at}
use Rattle.relay_admin.specs.rules.Grammar.{space}
use Rattle.relay_admin.specs.TextReading.{◌>>=◌, split_at_first, number_within, time_within}
use Rattle.relay_admin.specs.declared.admin.command.Arguments.{Arguments}
use Rattle.relay_admin.specs.declared.admin.command.Arguments.TheVariants as behind
use Rattle.relay_admin.specs.declared.admin.command.Command.{Command}
use Rattle.relay_admin.specs.declared.admin.command.Command.TheVariants as command
use Rattle.relay_admin.specs.declared.admin.command.TheConstants.{MAX_ID, MAX_DEADLINE_MS}

-- an id where the text has one part, an id and a deadline where it has two
abbrev pub arguments_of_parts : List ℕ → Option (List ℕ × List ℕ) → Option Arguments
arguments_of_parts text None = do
  id ← number_within 1 MAX_ID text
  Some (behind.Id id)
arguments_of_parts text (Some parts) = do
  id ← number_within 1 MAX_ID parts.0
  after ← time_within 0 MAX_DEADLINE_MS parts.1
  Some (behind.IdAndDeadline id after)

-- what stands behind a word and its space
unfoldable pub arguments_at : List ℕ → Option Arguments
arguments_at text = arguments_of_parts text (split_at_first space text)

-- milliseconds at most a day
abbrev pub ms_at : List ℕ → Option Arguments
ms_at text = do
  ms ← number_within 0 MAX_DEADLINE_MS text
  Some (behind.Ms ms)

-- a target and what is set of it
abbrev pub target_at : List ℕ → Option Arguments
target_at text = do
  order ← target_order_at text
  Some (behind.Target order)

-- what stands behind this word and its space
unfoldable pub behind_word : List ℕ → List ℕ → Option Arguments
behind_word word text =
    if bytes_eq word (codes "finish") then ms_at text
    else if bytes_eq word (codes "target") then target_at text
    else arguments_at text

-- a word alone where the line has one part, a word and its arguments where it has two
abbrev pub words_of_parts : List ℕ → Option (List ℕ × List ℕ) → Option (List ℕ × Arguments)
words_of_parts text None = Some (text, behind.Nothing)
words_of_parts text (Some parts) = do
  arguments ← behind_word parts.0 parts.1
  Some (parts.0, arguments)

-- a word, and what stands behind it
unfoldable pub words_at : List ℕ → Option (List ℕ × Arguments)
words_at text = words_of_parts text (split_at_first space text)

-- the command of a word that stands alone
unfoldable pub command_alone : List ℕ → Option Command
command_alone word =
    if bytes_eq word (codes "list") then Some command.List
    else if bytes_eq word (codes "totals") then Some command.Totals
    else if bytes_eq word (codes "quit") then Some command.Quit
    else if bytes_eq word (codes "stop") then Some command.Stop
    else if bytes_eq word (codes "reload") then Some command.Reload
    else if bytes_eq word (codes "show") then Some command.ShowAll
    else if bytes_eq word (codes "targets") then Some command.Targets
    else None

-- the command of a word with an id behind it
unfoldable pub command_at_id : List ℕ → ℕ → Option Command
command_at_id word id =
    if bytes_eq word (codes "close") then Some (command.CloseConn id)
    else if bytes_eq word (codes "drain") then Some (command.DrainConn id)
    else if bytes_eq word (codes "show") then Some (command.Show id)
    else None

-- the command of a word with these arguments
unfoldable pub command_at : List ℕ → Arguments → Option Command
command_at word behind.Nothing = command_alone word
command_at word (behind.Id id) = command_at_id word id
command_at word (behind.IdAndDeadline id after) =
    if bytes_eq word (codes "deadline") then Some (command.DeadlineOf id after) else None
command_at word (behind.Ms ms) =
    if bytes_eq word (codes "finish") then Some (command.Finish ms) else None
command_at word (behind.Target order) =
    if bytes_eq word (codes "target") then Some (command.SetTarget order) else None
