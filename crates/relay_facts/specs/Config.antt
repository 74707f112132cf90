-- The rules that a relay is asked to serve, and how large it is.
use Rattle.std.specs.Prelude.{◌≡◌, ◌≤◌, ℕ, false, List, None, Option, Some, IfNone, IfSome, IsSome, length, option_map, slice_get}
use Rattle.std.specs.Arc.{arc_value}
use Rattle.std.specs.declared.alloc.Global.{Global}
use Rattle.std.specs.declared.sync.Arc.{Arc}
use Rattle.client_sources.specs.Limits.{are_none}
use Rattle.relay_admin.specs.declared.rules.rule.Rule.{Rule}
use Rattle.log_writer.specs.declared.log.Log.{Log}
use Rattle.relay_config.specs.declared.log.Format as asked
use Rattle.relay_config.specs.declared.log.Format.TheVariants as asked_format
use Rattle.relay_core.specs.declared.capacity.Capacity.{Capacity}
use Rattle.relay_log.specs.declared.format.Format.{Format}
use Rattle.relay_log.specs.declared.format.Format.TheVariants as format
use Rattle.relay_settings.specs.Listeners.{further_listeners}
use Rattle.relay_settings.specs.declared.asked.Source.{Source}
use Rattle.relay_settings.specs.declared.said.Said as file
use Rattle.relay_settings.specs.declared.settings.Settings.{Settings}
use Rattle.relay_settings.specs.declared.targets.SaidRule.{SaidRule}
use Rattle.relay_facts.specs.Acceptance.{checks_with, targets_with}
use Rattle.relay_facts.specs.Admission.{allowed_by, denied_by}
use Rattle.relay_facts.specs.Counts.{loops_of}
use Rattle.relay_facts.specs.Listens.{listens_in}
use Rattle.relay_facts.specs.NamedTargets.{IsListOf, by_answers, looked_up, names_in}
use Rattle.relay_facts.specs.Senders.{nets_with}
use Rattle.relay_facts.specs.Source.{FileSays}
use Rattle.relay_facts.specs.Targets.{targets_of}
use Rattle.relay_facts.specs.declared.config.Config.{Config}
use Rattle.relay_facts.specs.declared.host_answers.Answer.{Answer}
use Rattle.relay_facts.specs.declared.named_list.NamedTargets.{NamedTargets}
use Rattle.relay_facts.specs.declared.served_rule.Said.{Said}
use Rattle.relay_facts.specs.declared.served_rule.ServedRule.{ServedRule}
use Rattle.relay_facts.specs.declared.target_list.Targets.{Targets}

-- what an account says is this rule, at its addresses, with its limits, its sockets, its targets, where hosts
-- were looked up as these answers have it, of which one is picked and which are checked as it says, with its
-- header for them, with its lists of clients, and with those that begin with a header
pub record SaysRuleBy (answers : List Answer) (given : SaidRule) (said : Said) : Type 0 where
  pub rule : said.rule ≡ given.rule
  pub listens : listens_in said ≡ given.listens.items
  pub limit : said.limit ≡ given.limit
  pub source_limits : said.source_limits ≡ given.source_limits
  pub sources : are_none given.source_limits ≡ false → IsSome said.sources
  pub sockets : said.sockets ≡ given.sockets
  pub targets : targets_with (option_map arc_value said.targets) said.rule
      ≡ by_answers answers given.names.items given.targets.items
  pub names : IfSome said.names (λ named. IsListOf given (arc_value named))
  pub hosts : names_in (option_map arc_value said.names) ≡ given.names.items
  pub balance : IfSome said.targets (λ list. (arc_value list).balance ≡ given.balance)
  pub checks : checks_with (option_map arc_value said.targets) ≡ given.checks
  pub header : said.header ≡ given.header
  pub allow : allowed_by (option_map arc_value said.access) ≡ given.access.allow.items
  pub deny : denied_by (option_map arc_value said.access) ≡ given.access.deny.items
  pub senders : nets_with (option_map arc_value said.senders) ≡ given.senders.items

-- the same, whatever hosts were looked up as
abbrev pub SaysRule : SaidRule → Said → Type 0
SaysRule given said = (answers : List Answer) × SaysRuleBy answers given said

-- two say the same, in lists of memory of their own or held in common
pub record IsSame (one other : Said) : Type 0 where
  pub rule : other.rule ≡ one.rule
  pub listens : option_map arc_value other.listens ≡ option_map arc_value one.listens
  pub limit : other.limit ≡ one.limit
  pub source_limits : other.source_limits ≡ one.source_limits
  pub sources : option_map arc_value other.sources ≡ option_map arc_value one.sources
  pub sockets : other.sockets ≡ one.sockets
  pub targets : option_map arc_value other.targets ≡ option_map arc_value one.targets
  pub names : option_map arc_value other.names ≡ option_map arc_value one.names
  pub header : other.header ≡ one.header
  pub access : option_map arc_value other.access ≡ option_map arc_value one.access
  pub senders : option_map arc_value other.senders ≡ option_map arc_value one.senders

-- the same but for its list of targets, which is this one
pub record SaysWith (list : Targets) (one other : Said) : Type 0 where
  pub rule : other.rule ≡ one.rule
  pub listens : option_map arc_value other.listens ≡ option_map arc_value one.listens
  pub limit : other.limit ≡ one.limit
  pub source_limits : other.source_limits ≡ one.source_limits
  pub sources : option_map arc_value other.sources ≡ option_map arc_value one.sources
  pub sockets : other.sockets ≡ one.sockets
  pub targets : option_map arc_value other.targets ≡ Some list
  pub names : option_map arc_value other.names ≡ option_map arc_value one.names
  pub header : other.header ≡ one.header
  pub access : option_map arc_value other.access ≡ option_map arc_value one.access
  pub senders : option_map arc_value other.senders ≡ option_map arc_value one.senders

-- a list has the targets that a rule's file says, where hosts were looked up as these answers have it, and picks and
-- checks them as the list of before does
pub record IsFoundBy (answers : List Answer) (named : NamedTargets) (before list : Targets) : Type 0 where
  pub targets : targets_of list ≡ looked_up answers named.names.items named.targets.items
  pub balance : list.balance ≡ before.balance
  pub checks : list.checks ≡ before.checks

-- a rule says the same as before, but that its hosts were looked up as these answers have it
pub record AreFoundBy (answers : List Answer) (one other : Said) : Type 0 where
  pub named : NamedTargets
  pub before : Targets
  pub list : Targets
  pub said : option_map arc_value one.names ≡ Some named
  pub known : option_map arc_value one.targets ≡ Some before
  pub found : IsFoundBy answers named before list
  pub same : SaysWith list one other

-- a rule is served at its own address, and so many loops count for it
abbrev pub ServesRule : Rule → ℕ → ServedRule → Type 0
ServesRule rule loops served = (served.listen ≡ rule.listen) × (loops_of served.counts ≡ loops)

-- each of these rules is served, in their order, and nothing else
pub record AreServed (rules : List SaidRule) (loops : ℕ) (all : List (Arc ServedRule Global))
    : Type 0 where
  pub count : length all ≡ length rules
  pub each : (k : ℕ) (said : SaidRule) (served : Arc ServedRule Global) → slice_get rules k ≡ Some said
      → slice_get all k ≡ Some served → ServesRule said.rule loops (arc_value served)

-- what a relay is asked to be is what its file says: each rule is served, and nothing else, and its further
-- addresses are counted
abbrev pub IsOfFile : Source → Config → Type 0
IsOfFile source config = (said : file.Said) × FileSays source said
    × (config.start.file ≡ said.settings)
    × AreServed said.rules.items config.capacity.loops.count config.rules.items
    × (config.further ≡ further_listeners said.rules.items)

-- how the lines of a log are written, by what a configuration says of it: as text where it says nothing
abbrev pub log_format : Option asked.Format → Format
log_format (Some asked_format.Json) = format.Json
log_format (Some asked_format.Text) = format.Text
log_format None = format.Text

-- the lines of the log are written as the settings say
abbrev pub IsLogOf : Settings → Arc (Log Global) Global → Type 0
IsLogOf settings log = (arc_value log).format ≡ log_format settings.log_format

-- neither the words of the command line nor the file name an admin socket
abbrev pub NamesNoAdmin : (words file : Settings) → Type 0
NamesNoAdmin words file = (words.admin ≡ None) × (file.admin ≡ None)

-- as many loops and connections as the settings say, else at most 8 loops, and 512 connections
pub record IsCapacity (settings : Settings) (capacity : Capacity) : Type 0 where
  pub loops : IfSome settings.loops (λ loops. capacity.loops ≡ loops)
  pub own_loops : IfNone settings.loops (capacity.loops.count ≤ 8)
  pub pairs : IfSome settings.pairs (λ pairs. capacity.pairs ≡ pairs)
  pub own_pairs : IfNone settings.pairs (capacity.pairs.count ≡ 512)
