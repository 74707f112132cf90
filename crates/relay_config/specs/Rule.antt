-- What the table of a rule says: its name, its listeners, its targets.
use Rattle.std.specs.Prelude.{ℕ, Bool, false, ◌||◌, List, [], ◌∷◌, length, Option, Some, None, Result, Ok, Err, unwrap_or, if◌then◌else◌}
use Rattle.std.specs.List.{list_any}
use Rattle.std.specs.Str.{bytes_eq}
use Rattle.config_values.specs.Addr.{Address, address_at, same_address}
use Rattle.target_pick.specs.declared.picking.Balance.TheVariants as balance
use Rattle.toml.specs.Data.{Data, Members}
use Rattle.relay_config.specs.Fault.{item_spot, spot}
use Rattle.relay_config.specs.Reading.{◌>>=◌, at_key, each_in, flag, if_there, known_alone, members, needed, number, some_items, spelled}
use Rattle.relay_config.specs.Values.{balance_at, listener_at, rule_name, time_or_never}
use Rattle.relay_config.specs.declared.fault.Fault.{Fault}
use Rattle.relay_config.specs.declared.fault.Fault.TheVariants as fault
use Rattle.relay_config.specs.declared.fault.Key.{Key}
use Rattle.relay_config.specs.declared.fault.Key.TheVariants as key
use Rattle.relay_config.specs.declared.fault.Place.{Place}
use Rattle.relay_config.specs.declared.fault.Place.TheVariants as place
use Rattle.relay_config.specs.declared.fault.Wrong.TheVariants as wrong
use Rattle.relay_config.specs.declared.listen.TheConstants.{MAX_LISTENERS}
use Rattle.relay_config.specs.declared.rule.TheConstants.{DEFAULT_RESOLVE_MS}
use Rattle.relay_config.specs.declared.target.TheConstants.{MAX_TARGETS}
use Rattle.relay_config.specs.Access.{access_in}
use Rattle.relay_config.specs.Clients.{clients_in}
use Rattle.relay_config.specs.Health.{health_at}
use Rattle.relay_config.specs.Proxy.{proxy_at}
use Rattle.relay_config.specs.Sockets.{sockets_at}
use Rattle.relay_config.specs.Entries.{HeadEntry, RuleEntry, TargetEntry}

-- ---- A target

-- the keys of a target
abbrev pub target_keys : List Key
target_keys = key.At ∷ key.Weight ∷ key.Backup ∷ []

-- the target that a table says
unfoldable pub target_in : Place → Members → Result TargetEntry Fault
target_in here table = do
  alone ← known_alone target_keys here table
  value ← needed (spot here key.At) (at_key key.At table)
  address ← spelled address_at (spot here key.At) value
  weight ← if_there (number 0 65535 (spot here key.Weight)) (at_key key.Weight table)
  backup ← if_there (flag (spot here key.Backup)) (at_key key.Backup table)
  Ok (record { at = address; weight = unwrap_or weight 1; backup = unwrap_or backup false })

-- the target behind these of a rule
unfoldable pub target_behind : ℕ → List TargetEntry → Data → Result TargetEntry Fault
target_behind rule found d = do
  table ← members (item_spot (place.Rule rule) key.Target (length found)) d
  target_in (place.Target rule (length found)) table

-- the targets of a rule, one at least
unfoldable pub targets_of : ℕ → Members → Result (List TargetEntry) Fault
targets_of rule table = do
  ds ← some_items MAX_TARGETS (place.Rule rule) key.Target table
  each_in (target_behind rule) [] ds

-- ---- Listeners

-- one of them has the address
abbrev pub has_address : Address → List Address → Bool
has_address address found = list_any (λ (other : Address). same_address other address) found

-- a rule listens at the address
abbrev pub has_listener : Address → List RuleEntry → Bool
has_listener address rules = list_any (λ (rule : RuleEntry). has_address address rule.listen) rules

-- the listener behind these of the rule behind those; no address stands twice
unfoldable pub listener_behind : List RuleEntry → List Address → Data → Result Address Fault
listener_behind before found d = do
  address ← spelled listener_at (item_spot (place.Rule (length before)) key.Listen (length found)) d
  if has_address address found || has_listener address before
      then Err (fault.At (item_spot (place.Rule (length before)) key.Listen (length found)) wrong.Twice)
      else Ok address

-- the listeners of a rule, one at least
unfoldable pub listeners_of : List RuleEntry → Members → Result (List Address) Fault
listeners_of before table = do
  ds ← some_items MAX_LISTENERS (place.Rule (length before)) key.Listen table
  each_in (listener_behind before) [] ds

-- ---- A rule

-- the keys of a rule
abbrev pub rule_keys : List Key
rule_keys =
    key.Name ∷ key.Listen ∷ key.Target ∷ key.Balance ∷ key.Idle ∷ key.Connections ∷ key.ConnectionsPerSource
    ∷ key.AcceptsPerSource ∷ key.Keepalive ∷ key.UserTimeout ∷ key.Allow ∷ key.Deny ∷ key.ProxyProtocol ∷ key.Health
    ∷ key.Resolve ∷ key.Backlog ∷ key.Source ∷ key.Mode ∷ []

-- a rule has the name
abbrev pub has_name : List ℕ → List RuleEntry → Bool
has_name name rules = list_any (λ (rule : RuleEntry). bytes_eq rule.head.name name) rules

-- the name that a value spells, which no rule before this one has
unfoldable pub new_name : List RuleEntry → Data → Result (List ℕ) Fault
new_name before d = do
  name ← spelled rule_name (spot (place.Rule (length before)) key.Name) d
  if has_name name before then Err (fault.At (spot (place.Rule (length before)) key.Name) wrong.Twice) else Ok name

-- the name of the rule behind these
unfoldable pub name_in : List RuleEntry → Members → Result (List ℕ) Fault
name_in before table = do
  alone ← known_alone rule_keys (place.Rule (length before)) table
  value ← needed (spot (place.Rule (length before)) key.Name) (at_key key.Name table)
  new_name before value

-- how often the rule at a place has names looked up
unfoldable pub resolve_in : Place → Members → Result (Option ℕ) Fault
resolve_in here table = do
  time ← if_there (spelled time_or_never (spot here key.Resolve)) (at_key key.Resolve table)
  Ok (unwrap_or time (Some DEFAULT_RESOLVE_MS))

-- the head of the rule behind these
unfoldable pub head_in : List RuleEntry → Members → Result HeadEntry Fault
head_in before table = do
  name ← name_in before table
  idle ← if_there (spelled time_or_never (spot (place.Rule (length before)) key.Idle)) (at_key key.Idle table)
  picks ← if_there (spelled balance_at (spot (place.Rule (length before)) key.Balance)) (at_key key.Balance table)
  resolve ← resolve_in (place.Rule (length before)) table
  clients ← clients_in (place.Rule (length before)) table
  sockets ← sockets_at (place.Rule (length before)) table
  health ← if_there (health_at (length before)) (at_key key.Health table)
  Ok (record {
    name = name;
    idle = unwrap_or idle None;
    balance = unwrap_or picks balance.RoundRobin;
    resolve = resolve;
    clients = clients;
    sockets = sockets;
    health = health;
  })

-- the rule behind these
unfoldable pub rule_in : List RuleEntry → Members → Result RuleEntry Fault
rule_in before table = do
  head ← head_in before table
  access ← access_in (place.Rule (length before)) table
  proxy ← if_there (proxy_at (length before)) (at_key key.ProxyProtocol table)
  listen ← listeners_of before table
  targets ← targets_of (length before) table
  Ok (record { head = head; access = access; proxy = proxy; listen = listen; targets = targets })

-- the rule of an item, behind these
unfoldable pub rule_behind : List RuleEntry → Data → Result RuleEntry Fault
rule_behind found d = do
  table ← members (item_spot place.Top key.Rule (length found)) d
  rule_in found table
