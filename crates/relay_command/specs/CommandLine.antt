-- What the words of the command line ask for.
use Rattle.std.specs.Prelude.{ℕ, Bool, true, false, List, [], ◌∷◌, Option, Some, None, codes, if◌then◌else◌}
use Rattle.std.specs.Prelude.{is_some, nat_eq, nat_le}
use Rattle.std.specs.Prelude.{◌-◌, ◌++◌, length, option_map, slice_get, take, unwrap_or}
use Rattle.std.specs.Option.{option_and_then, option_map_or}
use Rattle.std.specs.List.{list_any}
use Rattle.std.specs.Str.{bytes_eq}
use Rattle.std.specs.String.{string_bytes}
use Rattle.clap.specs.Walk.{Row, Rule, Text, first_of}
use Rattle.clap.specs.Simple.{App, new_app, new_rule, subcommand_of, with_rule, with_subcommand}
use Rattle.clap.specs.Faults.{fault_of}
use Rattle.clap.specs.Kinds.{Kinds}
use Rattle.clap.specs.declared.builder.action.ArgAction.TheVariants.{Set, SetTrue}
use Rattle.stream_base.specs.Decimal.{number_of}
use Rattle.relay_core.specs.Loops.{loop_count}
use Rattle.relay_core.specs.ConnectionLimit.{pair_count}
use Rattle.relay_admin.specs.TextReading.{◌>>=◌}
use Rattle.relay_admin.specs.rules.Addr.{Address, address_of}
use Rattle.relay_settings.specs.Meaning.{relay_address_at}
use Rattle.relay_settings.specs.declared.asked.Source.{Source}
use Rattle.relay_settings.specs.declared.asked.Source.TheVariants as source
use Rattle.relay_command.specs.declared.job.Job.{Job}
use Rattle.relay_command.specs.declared.job.Job.TheVariants as job

-- the file that says the rules: a rules file or a configuration, by its path
pub data Origin : Type 0 where
  Rules : Text → Origin
  Config : Text → Origin

-- what a source of the program says
abbrev pub origin_of : Source → Origin
origin_of (source.Rules path) = Rules (string_bytes path)
origin_of (source.Config path) = Config (string_bytes path)

-- a job with its texts; of a relay, as far as words say it: where it is steered, how many loops and
-- pairs it has, where its log and its metrics are, how many milliseconds a target has, how many pairs a
-- rule, whether stale sockets give way, and whether the format of the log is said
pub data Asked : Type 0 where
  Trace : Asked
  Check : Origin → Asked
  Convert : (rules : Text) → Asked
  Serve : Origin → (admin : Option Text) → (loops pairs : Option ℕ) → (log : Option Text) →
      (metrics : Option Address) → (connect_ms : Option (Option ℕ)) → (per_rule : Option ℕ) →
      (replaces_stale : Option Bool) → (says_format : Bool) → Asked
  Ctl : (admin line : Text) → Asked
  Help : Asked
  Version : Asked

abbrev pub asked_of : Job → Asked
asked_of job.Trace = Trace
asked_of (job.Check file) = Check (origin_of file)
asked_of (job.Convert rules) = Convert (string_bytes rules)
asked_of (job.Serve asked) =
    Serve (origin_of asked.source) (option_map string_bytes asked.words.admin)
    (option_map (λ l. l.count) asked.words.loops) (option_map (λ p. p.count) asked.words.pairs)
    (option_map string_bytes asked.words.log) (option_map address_of asked.words.metrics)
    asked.words.connect_ms (option_map (λ p. p.count) asked.words.per_rule)
    asked.words.replaces_stale (is_some asked.words.log_format)
asked_of (job.Ctl admin line) = Ctl (string_bytes admin) (string_bytes line)
asked_of job.Help = Help
asked_of job.Version = Version

-- an option that has to be there, with one value
abbrev pub required_option : Text → Rule
required_option name =
    record (new_rule name) { long = Some name; action = Some Set; required = true }

-- an option that may be left out, with one value
abbrev pub optional_option : Text → Rule
optional_option name = record (new_rule name) { long = Some name; action = Some Set }

-- an option that stands alone: it is there or not
abbrev pub flag_option : Text → Rule
flag_option name = record (new_rule name) { long = Some name; action = Some SetTrue }

abbrev pub check_app : App
check_app =
    with_rule (with_rule (new_app (codes "check")) (optional_option (codes "rules")))
    (optional_option (codes "config"))

-- `serve` with the options that say by which file, and where it is steered
abbrev pub serve_needs : App
serve_needs =
    with_rule
    (with_rule
    (with_rule (new_app (codes "serve")) (optional_option (codes "rules")))
    (optional_option (codes "config")))
    (optional_option (codes "admin"))

-- the same with how large it is, and where it tells of itself
abbrev pub serve_watched : App
serve_watched =
    with_rule
    (with_rule
    (with_rule
    (with_rule serve_needs (optional_option (codes "loops")))
    (optional_option (codes "connections")))
    (optional_option (codes "log")))
    (optional_option (codes "metrics"))

-- the same with what keeps one target or one rule from harming the others
abbrev pub serve_app : App
serve_app =
    with_rule
    (with_rule
    (with_rule serve_watched (optional_option (codes "connect-timeout")))
    (optional_option (codes "connections-per-rule")))
    (flag_option (codes "replace-stale"))

-- a word that stands alone, without an option ahead of it
abbrev pub operand : Text → Bool → Rule
operand name has_to_be =
    record (new_rule name) { action = Some Set; required = has_to_be }

-- `ctl` with the path of an admin socket, and the first of its words
abbrev pub ctl_named : App
ctl_named =
    with_rule
    (with_rule (new_app (codes "ctl")) (required_option (codes "admin")))
    (operand (codes "command") true)

-- the same with up to three words more
abbrev pub ctl_app : App
ctl_app =
    with_rule
    (with_rule
    (with_rule ctl_named (operand (codes "first") false))
    (operand (codes "second") false))
    (operand (codes "third") false)

-- the program's name, which doesn't stand ahead of the words; it has a command `help` of its own
abbrev pub named_app : App
named_app =
    let bare = new_app (codes "pollrelay") in
    record bare {
      top = record bare.top { no_binary_name = true; disable_help_subcommand = true };
    }

-- `convert` with the path of a rules file
abbrev pub convert_app : App
convert_app = with_rule (new_app (codes "convert")) (required_option (codes "rules"))

-- the commands that read a script, a rules file or a configuration
abbrev pub reading : App
reading =
    with_subcommand
    (with_subcommand (with_subcommand named_app (new_app (codes "trace")).top) check_app.top)
    convert_app.top

-- the same, and the one that serves
abbrev pub working : App
working = with_subcommand reading serve_app.top

-- the program as `clap` sees it: with the commands that ask a relay or tell of the program
abbrev pub program : App
program =
    with_subcommand
    (with_subcommand (with_subcommand working ctl_app.top) (new_app (codes "help")).top)
    (new_app (codes "version")).top

-- the value of an option
abbrev pub value_of : Text → List Row → Text
value_of id rows = unwrap_or (first_of id rows) []

-- the loops that a text asks for, if it spells a number of them
abbrev pub loops_in : Text → Option ℕ
loops_in text = option_and_then loop_count (number_of text)

-- the loops that an option asks for, which may be left out; none where its text asks for none
abbrev pub loops_given : Option Text → Option (Option ℕ)
loops_given None = Some None
loops_given (Some text) = option_map Some (loops_in text)

-- the pairs that a text asks for, if it spells a number of them
abbrev pub pairs_in : Text → Option ℕ
pairs_in text = option_and_then pair_count (number_of text)

-- the pairs that an option asks for, which may be left out; none where its text asks for none
abbrev pub pairs_given : Option Text → Option (Option ℕ)
pairs_given None = Some None
pairs_given (Some text) = option_map Some (pairs_in text)

-- how many milliseconds a target has to be connected, by a text: 0 is as long as the system takes,
-- and a day is the most
abbrev pub connect_in : Text → Option (Option ℕ)
connect_in text = do
  ms ← number_of text
  if nat_le ms 86400000 then Some (if nat_eq ms 0 then None else Some ms) else None

-- the same by an option, which may be left out
abbrev pub connect_given : Option Text → Option (Option (Option ℕ))
connect_given None = Some None
connect_given (Some text) = option_map Some (connect_in text)

-- an option that stands alone is there
abbrev pub is_set : Text → List Row → Bool
is_set id rows = option_map_or (λ text. bytes_eq text (codes "true")) (first_of id rows) false

-- the log that an option asks for, which may be left out; none where its path has no byte
abbrev pub log_given : Option Text → Option (Option Text)
log_given None = Some None
log_given (Some []) = None
log_given (Some (byte ∷ path)) = Some (Some (byte ∷ path))

-- the metrics' address that an option asks for, as a configuration spells it, which may be left out; none
-- where its text has none
abbrev pub metrics_given : Option Text → Option (Option Address)
metrics_given None = Some None
metrics_given (Some text) = option_map Some (relay_address_at text)

-- the file that options ask for: one of both
abbrev pub origin_given : Option Text → Option Text → Option Origin
origin_given (Some rules) None = Some (Rules rules)
origin_given None (Some config) = Some (Config config)
origin_given _ _ = None

-- the admin socket that an option asks for, which may be left out beside a configuration alone
abbrev pub admin_given : Origin → Option Text → Option (Option Text)
admin_given origin (Some path) = Some (Some path)
admin_given (Config file) None = Some None
admin_given (Rules file) None = None

-- an option that stands alone says that it is so, or nothing
abbrev pub true_if : Bool → Option Bool
true_if true = Some true
true_if false = None

-- the job of `serve` by such a file, with its options, or none; no option says the format of the log
abbrev pub job_of_origin : Origin → List Row → Option Asked
job_of_origin origin rows = do
  admin ← admin_given origin (first_of (codes "admin") rows)
  loops ← loops_given (first_of (codes "loops") rows)
  pairs ← pairs_given (first_of (codes "connections") rows)
  log ← log_given (first_of (codes "log") rows)
  metrics ← metrics_given (first_of (codes "metrics") rows)
  connect_ms ← connect_given (first_of (codes "connect-timeout") rows)
  per_rule ← pairs_given (first_of (codes "connections-per-rule") rows)
  Some (Serve origin admin loops pairs log metrics connect_ms per_rule
      (true_if (is_set (codes "replace-stale") rows)) false)

-- the job of `serve` with its options, or none
abbrev pub served_job : List Row → Option Asked
served_job rows = do
  origin ← origin_given (first_of (codes "rules") rows) (first_of (codes "config") rows)
  job_of_origin origin rows

-- the job of `check` with its options, or none
abbrev pub checked_job : List Row → Option Asked
checked_job rows = do
  origin ← origin_given (first_of (codes "rules") rows) (first_of (codes "config") rows)
  Some (Check origin)

-- a word behind others, if there is one more
abbrev pub spaced : Option Text → Text
spaced None = []
spaced (Some word) = codes " " ++ word

-- the words of an admin command as a line
abbrev pub line_in : List Row → Text
line_in rows = value_of (codes "command") rows
    ++ spaced (first_of (codes "first") rows) ++ spaced (first_of (codes "second") rows)
    ++ spaced (first_of (codes "third") rows)

-- the job of a command with its options, or none
abbrev pub named_job : Text → List Row → Option Asked
named_job name rows =
    if bytes_eq name (codes "trace") then Some Trace
    else if bytes_eq name (codes "check") then checked_job rows
    else if bytes_eq name (codes "convert") then Some (Convert (value_of (codes "rules") rows))
    else if bytes_eq name (codes "serve") then served_job rows
    else if bytes_eq name (codes "ctl") then Some (Ctl (value_of (codes "admin") rows) (line_in rows))
    else if bytes_eq name (codes "help") then Some Help
    else if bytes_eq name (codes "version") then Some Version
    else None

-- the job of what a command line holds: no command stands for `trace`
abbrev pub found_job : Option (Text × List Row) → Option Asked
found_job None = Some Trace
found_job (Some p) = named_job p.0 p.1

-- a command line with a fault asks for nothing
abbrev pub unless_faulty : Kinds → Option Asked → Option Asked
unless_faulty [] asked = asked
unless_faulty (fault ∷ others) asked = None

-- the word that ends the options
abbrev pub is_end : Text → Bool
is_end word = bytes_eq word (codes "--")

-- the words without a `--` at their end
abbrev pub options_of : List Text → List Text
options_of words =
    let last = length words - 1 in
    if option_map_or is_end (slice_get words last) false then take last words else words

-- a word follows the end of the options: an operand
abbrev pub has_operand : List Text → Bool
has_operand words = list_any is_end (options_of words)

-- the job of words among which no `--` is: those of a command line without a fault
abbrev pub job_of_options : List Text → Option Asked
job_of_options options =
    unless_faulty (fault_of program options) (found_job (subcommand_of program options))

-- the job that words ask for; no command has an operand
abbrev pub job_asked : List Text → Option Asked
job_asked words = if has_operand words then None else job_of_options (options_of words)
