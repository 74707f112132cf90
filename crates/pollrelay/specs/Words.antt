-- What the program's arguments ask for.
use Rattle.std.specs.Prelude.{◌≡◌, ◌≢◌, ◌⊎◌, ℕ, List, Some, None, drop, map, String}
use Rattle.std.specs.Global.{Global}
use Rattle.std.specs.String.{string_bytes}
use Rattle.std.specs.declared.io.ErrorKind.{ErrorKind}
use Rattle.std.specs.declared.io.ErrorKind.TheVariants.{OutOfMemory}
use Rattle.relay_admin.specs.admin.Command.{IsCommand, command_text}
use Rattle.relay_admin.specs.declared.admin.command.Command.{Command}
use Rattle.relay_admin.specs.declared.serve_fault.ServeFault.TheVariants.{Memory}
use Rattle.clap.specs.Walk.{Text}
use Rattle.relay_command.specs.CommandLine.{asked_of, job_asked}
use Rattle.relay_command.specs.declared.fault.Fault.{Fault}
use Rattle.relay_command.specs.declared.fault.Fault.TheVariants.{BadCommandLine, Relay}
use Rattle.relay_command.specs.declared.job.Job.{Job}

-- the words behind the program's name
abbrev pub words_behind : List (String Global) → List Text
words_behind args = map string_bytes (drop 1 args)

-- arguments ask for this job
abbrev pub AskFor : List (String Global) → Job → Type 0
AskFor args job = Some (asked_of job) ≡ job_asked (words_behind args)

-- arguments ask for no job
abbrev pub AskForNothing : List (String Global) → Type 0
AskForNothing args = job_asked (words_behind args) ≡ None

-- why arguments that can't be had are no command line: memory was refused, or one of them is no text
abbrev pub fault_of_kind : ErrorKind → Fault
fault_of_kind OutOfMemory = Relay Memory
fault_of_kind _ = BadCommandLine

-- why there is no job
abbrev pub IsFaultOfWords : Fault → Type 0
IsFaultOfWords fault = (fault ≡ BadCommandLine) ⊎ (fault ≡ Relay Memory)

-- the line spells no admin command
abbrev pub SpellsNoCommand : List ℕ → Type 0
SpellsNoCommand line = (command : Command) → IsCommand command → line ≢ command_text command
