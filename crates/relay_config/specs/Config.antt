-- What the table of a configuration says, and what a text.
use Rattle.std.specs.Prelude.{◌≡◌, ◌<◌, ◌≤◌, ℕ, List, [], ◌∷◌, length, Some, None, Result, Ok, Err}
use Rattle.std.specs.Str.{IsUtf8}
use Rattle.toml.specs.Data.{Members}
use Rattle.toml.specs.Parse.{parse_document}
use Rattle.relay_config.specs.Fault.{spot}
use Rattle.relay_config.specs.Reading.{◌>>=◌, at_key, each_in, if_there, items_in, known_alone, number, spelled}
use Rattle.relay_config.specs.Values.{time_or_never}
use Rattle.relay_config.specs.declared.config.TheConstants.{MAX_BYTES, MAX_CONNECTIONS, MAX_RULES}
use Rattle.relay_config.specs.declared.fault.Fault.{Fault}
use Rattle.relay_config.specs.declared.fault.Fault.TheVariants as fault
use Rattle.relay_config.specs.declared.fault.Key.{Key}
use Rattle.relay_config.specs.declared.fault.Key.TheVariants as key
use Rattle.relay_config.specs.declared.fault.Place.TheVariants as place
use Rattle.relay_config.specs.Entries.{ConfigEntry, LimitsEntry, RuleEntry}
use Rattle.relay_config.specs.Rule.{rule_behind}
use Rattle.relay_config.specs.Service.{log_at, service_in}

-- the keys of a configuration
abbrev pub config_keys : List Key
config_keys =
    key.Connections ∷ key.ConnectionsPerRule ∷ key.ConnectTimeout ∷ key.Loops ∷ key.ReplaceStale ∷ key.Metrics ∷ key.Admin
    ∷ key.Log ∷ key.Rule ∷ []

-- the limits that a table says
unfoldable pub limits_in : Members → Result LimitsEntry Fault
limits_in table = do
  alone ← known_alone config_keys place.Top table
  connections ← if_there (number 1 MAX_CONNECTIONS (spot place.Top key.Connections)) (at_key key.Connections table)
  each ← if_there (number 1 MAX_CONNECTIONS (spot place.Top key.ConnectionsPerRule)) (at_key key.ConnectionsPerRule table)
  timeout ← if_there (spelled time_or_never (spot place.Top key.ConnectTimeout)) (at_key key.ConnectTimeout table)
  Ok (record {
    connections = connections;
    rule_connections = each;
    connect_timeout = timeout;
  })

-- the rules that a table says
unfoldable pub rules_of : Members → Result (List RuleEntry) Fault
rules_of table = do
  ds ← items_in MAX_RULES place.Top key.Rule table
  each_in rule_behind [] ds

-- the configuration that a table says
unfoldable pub config_in : Members → Result ConfigEntry Fault
config_in table = do
  limits ← limits_in table
  service ← service_in table
  log ← if_there log_at (at_key key.Log table)
  rules ← rules_of table
  Ok (record { limits = limits; service = service; log = log; rules = rules })

-- the text is TOML, and this table
pub record IsToml (text : List ℕ) (table : Members) : Type 0 where
  pub short : length text ≤ MAX_BYTES
  pub utf8 : IsUtf8 text
  pub read : parse_document text ≡ Some table

-- the text is this configuration
abbrev pub SaysConfig : List ℕ → ConfigEntry → Type 0
SaysConfig text config = (table : Members) × IsToml text table × (config_in table ≡ Ok config)

-- the text is no configuration, for this reason first
pub data SaysFault (text : List ℕ) : Fault → Type 0 where
  too_long : MAX_BYTES < length text → SaysFault text fault.TooLong
  no_toml : {line column : ℕ} → length text ≤ MAX_BYTES → (IsUtf8 text → parse_document text ≡ None)
      → SaysFault text (fault.Toml line column)
  of_table : {first : Fault} {table : Members} → IsToml text table → config_in table ≡ Err first → SaysFault text first
