-- A rules file as a configuration.
use Rattle.std.specs.Prelude.{ℕ, List, [], ◌∷◌, Some, None, map, false}
use Rattle.relay_admin.specs.rules.Fault.{SaysRules}
use Rattle.relay_admin.specs.rules.Grammar.{Entry}
use Rattle.client_sources.specs.Limits.{no_limits}
use Rattle.relay_config.specs.Entries.{AccessEntry}
use Rattle.relay_config.specs.declared.rule.TheConstants.{DEFAULT_RESOLVE_MS}
use Rattle.relay_settings.specs.Meaning.{SaidEntry, SaidRuleEntry, SaysAll, SettingsEntry}
use Rattle.relay_settings.specs.Targets.{plain_sockets}
use Rattle.target_pick.specs.declared.picking.Balance.TheVariants.{RoundRobin}

-- no setting is said
abbrev pub nothing_said : SettingsEntry
nothing_said = record {
  admin = None;
  admin_mode = None;
  loops = None;
  pairs = None;
  per_rule = None;
  connect = None;
  replaces_stale = None;
  log = None;
  log_format = None;
  metrics = None;
}

-- no list has a network, so that all clients are let in
abbrev pub no_lists : AccessEntry
no_lists = record { allow = []; deny = [] }

-- a rule at its own address alone, without limits of its own and with plain sockets, whose own target is
-- its only one, names no host, isn't checked and is sent no header, and which lets all clients in and awaits a
-- header of none
abbrev pub rule_alone : Entry → SaidRuleEntry
rule_alone rule = record {
  rule = rule;
  listens = rule.listen ∷ [];
  limit = None;
  source_limits = no_limits;
  sockets = plain_sockets;
  balance = RoundRobin;
  access = no_lists;
  checks = None;
  senders = [];
  header = None;
  targets = record { at = rule.target; weight = 1; backup = false } ∷ [];
  names = [];
  resolve = Some DEFAULT_RESOLVE_MS;
}

-- these rules, and no setting
abbrev pub rules_alone : List Entry → SaidEntry
rules_alone rules = record { settings = nothing_said; rules = map rule_alone rules }

-- the text is a configuration that says what the rules file says, and nothing else
abbrev pub MeansRules : List ℕ → List ℕ → Type 0
MeansRules file text = (rules : List Entry) × SaysRules file rules × SaysAll text (rules_alone rules)
