-- What a configuration means to a relay: its settings and its rules, or the first place that isn't
-- carried out.
use Rattle.std.specs.Prelude.{◌≡◌, ◌⊎◌, ◌+◌, ℕ, Bool, true, false, ◌&&◌, List, [], ◌∷◌, ◌++◌, length, map}
use Rattle.std.specs.Prelude.{nat_le, slice_index, Option, Some, None, option_map, Result, Ok, Err, if◌then◌else◌}
use Rattle.std.specs.Option.{option_and_then}
use Rattle.std.specs.String.{string_bytes}
use Rattle.client_nets.specs.Net.{Network, network_of}
use Rattle.client_sources.specs.declared.limits.Limits.{Limits}
use Rattle.config_values.specs.Addr as config
use Rattle.relay_admin.specs.rules.Addr.{Address, address_of, tcp, tcp6, unix}
use Rattle.relay_admin.specs.rules.Grammar.{Entry, entry_of}
use Rattle.relay_config.specs.Config.{SaysConfig, SaysFault}
use Rattle.relay_config.specs.Entries.{AccessEntry, AdminEntry, ChecksEntry, ClientsEntry, ConfigEntry, LogEntry}
use Rattle.relay_config.specs.Entries.{access_entry, checks_entry, sockets_entry}
use Rattle.relay_config.specs.Entries.{ProxyEntry, RuleEntry, SocketsEntry, TargetEntry}
use Rattle.relay_config.specs.Fault.{item_spot, spot}
use Rattle.relay_config.specs.Reading.{◌>>=◌, or_fault}
use Rattle.relay_config.specs.declared.fault.Fault.{Fault}
use Rattle.relay_config.specs.declared.fault.Fault.TheVariants.{At}
use Rattle.relay_config.specs.declared.fault.Key.TheVariants as key
use Rattle.relay_config.specs.declared.fault.Place.{Place}
use Rattle.relay_config.specs.declared.fault.Place.TheVariants as place
use Rattle.relay_config.specs.declared.fault.Spot.{Spot}
use Rattle.relay_config.specs.declared.fault.Wrong.TheVariants as wrong
use Rattle.relay_config.specs.declared.log.Format.{Format}
use Rattle.relay_config.specs.declared.proxy.Version.{Version}
use Rattle.relay_core.specs.Loops.{loop_count}
use Rattle.relay_core.specs.ConnectionLimit.{pair_count}
use Rattle.relay_settings.specs.declared.said.Said.{Said}
use Rattle.relay_settings.specs.declared.settings.Settings.{Settings}
use Rattle.relay_settings.specs.declared.targets.Named.{Named}
use Rattle.relay_settings.specs.declared.targets.SaidRule.{SaidRule}
use Rattle.relay_settings.specs.declared.targets.Target.{Target}
use Rattle.target_pick.specs.declared.picking.Balance.{Balance}

-- ---- What isn't carried out

-- the fault of what isn't carried out
abbrev pub unserved : Spot → Fault
unserved at = At at wrong.Unserved

-- the value, where the relay can have it
abbrev pub served : {A : Type 0} → Spot → Option A → Result A Fault
served at value = or_fault (unserved at) value

-- the place is carried out, or it isn't
abbrev pub served_if : Spot → Bool → Result (Unit {0}) Fault
served_if at true = Ok tt
served_if at false = Err (unserved at)

-- what is made of what is said, if anything is
abbrev pub if_said : {A B : Type 0} → (A → Result B Fault) → Option A → Result (Option B) Fault
if_said means None = Ok None
if_said means (Some said) = means said >>= λ y. Ok (Some y)

-- these, and those that entries say, each of which stands behind those before it
abbrev pub each_of : {A B : Type 0} → (List B → A → Result B Fault) → List B → List A → Result (List B) Fault
each_of step found [] = Ok found
each_of step found (x ∷ xs) = step found x >>= λ y. each_of step (found ++ y ∷ []) xs

-- an address that a relay has: one of IPv4 or IPv6, or a path of at most 100 bytes; none of a host that is named
abbrev pub relay_address : config.Address → Option Address
relay_address (config.v4 ip port) =
    Some (tcp (slice_index ip 0) (slice_index ip 1) (slice_index ip 2) (slice_index ip 3) port)
relay_address (config.v6 ip scope port) = Some (tcp6 ip scope port)
relay_address (config.unix path) = if nat_le (length path) 100 then Some (unix path) else None
relay_address (config.name host port) = None

-- the address of a relay that a text spells, as a configuration has it
abbrev pub relay_address_at : List ℕ → Option Address
relay_address_at text = option_and_then relay_address (config.address_at text)

-- milliseconds from 1 to those of a day
abbrev pub relay_time : ℕ → Option ℕ
relay_time ms = if nat_le 1 ms && nat_le ms 86400000 then Some ms else None

-- ---- The keys of the whole

-- how a relay runs, as far as it is said
pub record SettingsEntry : Type 0 where
  pub admin : Option (List ℕ)
  pub admin_mode : Option ℕ
  pub loops : Option ℕ
  pub pairs : Option ℕ
  pub per_rule : Option ℕ
  pub connect : Option (Option ℕ)
  pub replaces_stale : Option Bool
  pub log : Option (List ℕ)
  pub log_format : Option Format
  pub metrics : Option Address

-- what settings of the program say
abbrev pub settings_entry : Settings → SettingsEntry
settings_entry settings = record {
  admin = option_map string_bytes settings.admin;
  admin_mode = settings.admin_mode;
  loops = option_map (λ l. l.count) settings.loops;
  pairs = option_map (λ p. p.count) settings.pairs;
  per_rule = option_map (λ p. p.count) settings.per_rule;
  connect = settings.connect_ms;
  replaces_stale = settings.replaces_stale;
  log = option_map string_bytes settings.log;
  log_format = settings.log_format;
  metrics = option_map address_of settings.metrics;
}

-- how many connections may stand at once, by a place, if it says that
abbrev pub pairs_in : Spot → Option ℕ → Result (Option ℕ) Fault
pairs_in at count = if_said (λ n. served at (pair_count n)) count

-- loops
abbrev pub loops_at : ℕ → Result ℕ Fault
loops_at count = served (spot place.Top key.Loops) (loop_count count)

-- a time at a place, which never comes where none is said
abbrev pub time_in : Spot → Option ℕ → Result (Option ℕ) Fault
time_in at time = if_said (λ ms. served at (relay_time ms)) time

-- where metrics are served
abbrev pub metrics_at : config.Address → Result Address Fault
metrics_at address = served (spot place.Top key.Metrics) (relay_address address)

-- where admin sessions are served
abbrev pub admin_at : AdminEntry → Result (List ℕ) Fault
admin_at admin = Ok admin.path

-- the mode of the socket there, if it is said
abbrev pub mode_in : Option AdminEntry → Option ℕ
mode_in None = None
mode_in (Some admin) = admin.mode

-- where the log is
abbrev pub log_at : LogEntry → Result (List ℕ) Fault
log_at log = Ok log.file

-- the settings that the keys of the whole say
unfoldable pub settings_in : ConfigEntry → Result SettingsEntry Fault
settings_in config = do
  pairs ← pairs_in (spot place.Top key.Connections) config.limits.connections
  per_rule ← pairs_in (spot place.Top key.ConnectionsPerRule) config.limits.rule_connections
  connect ← if_said (time_in (spot place.Top key.ConnectTimeout)) config.limits.connect_timeout
  loops ← if_said loops_at config.service.loops
  metrics ← if_said metrics_at config.service.metrics
  admin ← if_said admin_at config.service.admin
  log ← if_said log_at config.log
  Ok (record {
    admin = admin;
    admin_mode = mode_in config.service.admin;
    loops = loops;
    pairs = pairs;
    per_rule = per_rule;
    connect = connect;
    replaces_stale = config.service.replaces_stale;
    log = log;
    log_format = option_map (λ it. it.format) config.log;
    metrics = metrics;
  })

-- ---- A rule

-- a target of a rule
pub record SaidTargetEntry : Type 0 where
  pub at : Address
  pub weight : ℕ
  pub backup : Bool

-- a target of a rule that names its host, at its place among the rule's targets
pub record NamedEntry : Type 0 where
  pub place : ℕ
  pub host : List ℕ
  pub port : ℕ
  pub weight : ℕ
  pub backup : Bool

-- a rule, where it listens, how many connections of it stand at once, how many clients of one source are let
-- in, how its sockets are set up, its targets, which of them name their hosts and how often these are looked
-- up, how they are checked and what they are told of a client, who may connect, and who begins with a header
pub record SaidRuleEntry : Type 0 where
  pub rule : Entry
  pub listens : List Address
  pub limit : Option ℕ
  pub source_limits : Limits
  pub sockets : SocketsEntry
  pub balance : Balance
  pub access : AccessEntry
  pub checks : Option ChecksEntry
  pub senders : List Network
  pub header : Option Version
  pub targets : List SaidTargetEntry
  pub names : List NamedEntry
  pub resolve : Option ℕ

-- what values of the program say
abbrev pub said_target_entry : Target → SaidTargetEntry
said_target_entry target = record { at = address_of target.at; weight = target.weight; backup = target.is_backup }

abbrev pub named_entry : Named → NamedEntry
named_entry named = record {
  place = named.place;
  host = named.host.bytes;
  port = named.port;
  weight = named.weight;
  backup = named.is_backup;
}

-- a rule with all that it says
abbrev pub said_rule_entry : SaidRule → SaidRuleEntry
said_rule_entry said = record {
  rule = entry_of said.rule;
  listens = map address_of said.listens.items;
  limit = option_map (λ p. p.count) said.limit;
  source_limits = said.source_limits;
  sockets = sockets_entry said.sockets;
  balance = said.balance;
  access = access_entry said.access;
  checks = option_map checks_entry said.checks;
  senders = map network_of said.senders.items;
  header = said.header;
  targets = map said_target_entry said.targets.items;
  names = map named_entry said.names.items;
  resolve = said.resolve_ms;
}

-- how many clients of one source are let in
abbrev pub source_limits_in : ClientsEntry → Limits
source_limits_in clients = record { connections = clients.source_connections; accepts = clients.source_accepts }

-- the address behind these at which a rule listens
abbrev pub address_behind : ℕ → List Address → config.Address → Result Address Fault
address_behind rule found address =
    served (item_spot (place.Rule rule) key.Listen (length found)) (relay_address address)

-- the first of the addresses at which a rule listens
abbrev pub first_listener : ℕ → List Address → Result Address Fault
first_listener rule [] = Err (unserved (spot (place.Rule rule) key.Listen))
first_listener rule (first ∷ others) = Ok first

-- where a target is before names were looked up: one whose host is named is at the address that no host has,
-- with its port
abbrev pub target_address : config.Address → Option Address
target_address (config.v4 ip port) = relay_address (config.v4 ip port)
target_address (config.v6 ip scope port) = relay_address (config.v6 ip scope port)
target_address (config.unix path) = relay_address (config.unix path)
target_address (config.name host port) = Some (tcp 0 0 0 0 port)

-- its weight until then: such a one gets nobody
abbrev pub weight_before : config.Address → ℕ → ℕ
weight_before (config.v4 ip port) weight = weight
weight_before (config.v6 ip scope port) weight = weight
weight_before (config.unix path) weight = weight
weight_before (config.name host port) weight = 0

-- a target, at an address that the relay has, or of a host that is looked up
unfoldable pub target_in : Place → TargetEntry → Result SaidTargetEntry Fault
target_in here target = do
  address ← served (spot here key.At) (target_address target.at)
  Ok (record { at = address; weight = weight_before target.at target.weight; backup = target.backup })

-- what a target at a place says where its host is named
abbrev pub named_by : ℕ → TargetEntry → config.Address → Option NamedEntry
named_by place target (config.v4 ip port) = None
named_by place target (config.v6 ip scope port) = None
named_by place target (config.unix path) = None
named_by place target (config.name host port) =
    Some (record { place = place; host = host; port = port; weight = target.weight; backup = target.backup })

abbrev pub named_at : ℕ → TargetEntry → Option NamedEntry
named_at place target = named_by place target target.at

-- one in front of these, if there is one
abbrev pub in_front : {A : Type 0} → Option A → List A → List A
in_front None all = all
in_front (Some one) all = one ∷ all

-- those of these targets, from a place on, that name their hosts
abbrev pub names_from : ℕ → List TargetEntry → List NamedEntry
names_from place [] = []
names_from place (first ∷ others) = in_front (named_at place first) (names_from (place + 1) others)

-- the target behind these of a rule
unfoldable pub target_behind : ℕ → List SaidTargetEntry → TargetEntry → Result SaidTargetEntry Fault
target_behind rule found target = target_in (place.Target rule (length found)) target

-- the targets of a rule, each at its place
unfoldable pub targets_in : ℕ → List TargetEntry → Result (List SaidTargetEntry) Fault
targets_in rule targets = do
  few ← served_if (item_spot (place.Rule rule) key.Target 64) (nat_le (length targets) 64)
  each_of (target_behind rule) [] targets

-- the address of the first target
abbrev pub first_address : ℕ → List SaidTargetEntry → Result Address Fault
first_address rule [] = Err (unserved (spot (place.Rule rule) key.Target))
first_address rule (first ∷ others) = Ok first.at

-- with which header a connection to a target begins, if with one
abbrev pub header_in : Option ProxyEntry → Option Version
header_in None = None
header_in (Some proxy) = proxy.to_target

-- the networks whose clients begin with a header
abbrev pub senders_in : Option ProxyEntry → List Network
senders_in None = []
senders_in (Some proxy) = proxy.from_client

-- the rule with this number
unfoldable pub rule_in : ℕ → RuleEntry → Result SaidRuleEntry Fault
rule_in n rule = do
  idle ← time_in (spot (place.Rule n) key.Idle) rule.head.idle
  limit ← pairs_in (spot (place.Rule n) key.Connections) rule.head.clients.connections
  resolve ← time_in (spot (place.Rule n) key.Resolve) rule.head.resolve
  listens ← each_of (address_behind n) [] rule.listen
  listen ← first_listener n listens
  targets ← targets_in n rule.targets
  target ← first_address n targets
  Ok (record {
    rule = record { name = rule.head.name; listen = listen; target = target; idle = idle };
    listens = listens;
    limit = limit;
    source_limits = source_limits_in rule.head.clients;
    sockets = rule.head.sockets;
    balance = rule.head.balance;
    access = rule.access;
    checks = rule.head.health;
    senders = senders_in rule.proxy;
    header = header_in rule.proxy;
    targets = targets;
    names = names_from 0 rule.targets;
    resolve = resolve;
  })

-- the rule behind these, of which there are at most 64 in all
unfoldable pub rule_behind : List SaidRuleEntry → RuleEntry → Result SaidRuleEntry Fault
rule_behind found rule = do
  few ← served_if (item_spot place.Top key.Rule (length found)) (nat_le (length found) 63)
  rule_in (length found) rule

-- ---- The whole

-- what a configuration or a rules file says
pub record SaidEntry : Type 0 where
  pub settings : SettingsEntry
  pub rules : List SaidRuleEntry

-- what a value of the program says
abbrev pub said_entry : Said → SaidEntry
said_entry said = record { settings = settings_entry said.settings; rules = map said_rule_entry said.rules.items }

-- what a configuration says, key by key
unfoldable pub said_in : ConfigEntry → Result SaidEntry Fault
said_in config = do
  settings ← settings_in config
  rules ← each_of rule_behind [] config.rules
  Ok (record { settings = settings; rules = rules })

-- the text is a configuration that is carried out, and says this
abbrev pub SaysAll : List ℕ → SaidEntry → Type 0
SaysAll text said = (config : ConfigEntry) × SaysConfig text config × (said_in config ≡ Ok said)

-- the text's first fault: it is no configuration, or says what isn't carried out
abbrev pub IsFirstFault : List ℕ → Fault → Type 0
IsFirstFault text fault =
    SaysFault text fault ⊎ ((config : ConfigEntry) × SaysConfig text config × (said_in config ≡ Err fault))
