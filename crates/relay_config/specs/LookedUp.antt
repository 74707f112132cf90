-- What stands at a spot of a table, and which key is meant by one that it may not have.
use Rattle.std.specs.Prelude.{◌≡◌, ◌<◌, ◌≤◌, ℕ, List, [], All, length, nat_eq, slice_get, take, unwrap_or}
use Rattle.std.specs.Prelude.{Option, Some, None}
use Rattle.std.specs.Option.{option_and_then}
use Rattle.std.specs.Str.{chars}
use Rattle.strsim.specs.Edits.{levenshtein_row}
use Rattle.toml.specs.Data.{Data, Members, as_array, as_table, get_item}
use Rattle.relay_config.specs.Config.{config_keys}
use Rattle.relay_config.specs.Fault.{key_word}
use Rattle.relay_config.specs.Health.{health_keys}
use Rattle.relay_config.specs.Proxy.{proxy_keys}
use Rattle.relay_config.specs.Reading.{at_key, keys_in}
use Rattle.relay_config.specs.Rule.{rule_keys, target_keys}
use Rattle.relay_config.specs.Service.{admin_keys, log_keys}
use Rattle.relay_config.specs.declared.fault.Key.{Key}
use Rattle.relay_config.specs.declared.fault.Key.TheVariants as key
use Rattle.relay_config.specs.declared.fault.Place.{Place}
use Rattle.relay_config.specs.declared.fault.Place.TheVariants as place
use Rattle.relay_config.specs.declared.fault.Spot.{Spot}
use Rattle.relay_config.specs.declared.looked_up.TheConstants.{MAX_EDITS, MAX_NEAR_BYTES}

-- the table at a key
abbrev pub table_of_key : Key → Members → Option Members
table_of_key key table = option_and_then as_table (at_key key table)

-- the item with this number, from 0, of the list at a key
abbrev pub item_of : Key → ℕ → Members → Option Data
item_of key number table =
    option_and_then (get_item number) (option_and_then as_array (at_key key table))

-- the table of the item with this number
abbrev pub table_of_item : Key → ℕ → Members → Option Members
table_of_item key number table = option_and_then as_table (item_of key number table)

-- the table at a place
abbrev pub table_at : Members → Place → Option Members
table_at table place.Top = Some table
table_at table place.Admin = table_of_key key.Admin table
table_at table place.Log = table_of_key key.Log table
table_at table (place.Rule rule) = table_of_item key.Rule rule table
table_at table (place.Proxy rule) =
    option_and_then (table_of_key key.ProxyProtocol) (table_of_item key.Rule rule table)
table_at table (place.Health rule) =
    option_and_then (table_of_key key.Health) (table_of_item key.Rule rule table)
table_at table (place.Target rule target) =
    option_and_then (table_of_item key.Target target) (table_of_item key.Rule rule table)

-- the value at a key of a table, or the item with a number of the list there
abbrev pub value_in : Key → Option ℕ → Members → Option Data
value_in key None table = at_key key table
value_in key (Some number) table = item_of key number table

-- the value at a spot
abbrev pub value_at_spot : Members → Spot → Option Data
value_at_spot table spot = option_and_then (value_in spot.key spot.item) (table_at table spot.place)

-- the key with this number, from 0 and in their order, of the table at a place; no byte where it has
-- none
abbrev pub key_number : Members → Place → ℕ → List ℕ
key_number table place number =
    unwrap_or (option_and_then (λ here. slice_get (keys_in here) number) (table_at table place)) []

-- the keys that the table at a place may have
abbrev pub keys_of : Place → List Key
keys_of place.Top = config_keys
keys_of place.Admin = admin_keys
keys_of place.Log = log_keys
keys_of (place.Rule rule) = rule_keys
keys_of (place.Proxy rule) = proxy_keys
keys_of (place.Health rule) = health_keys
keys_of (place.Target rule target) = target_keys

-- how many characters have to be put in, left out or changed to make a word of a key
abbrev pub edits : List ℕ → Key → ℕ
edits word key = levenshtein_row nat_eq (chars (key_word key)) (chars word) (length (chars word))

-- a key is meant by a word: at most two edits are between them, and of those that are known none is
-- nearer, and none before it as near
pub record IsMeant (known : List Key) (word : List ℕ) (key : Key) : Type 0 where
  pub place : ℕ
  pub here : slice_get known place ≡ Some key
  pub near : edits word key ≤ MAX_EDITS
  pub nearest : All (λ other. edits word key ≤ edits word other) known
  pub first : All (λ other. edits word key < edits word other) (take place known)

-- the key that is meant, where there is one: a long word means none
abbrev pub AreNearest : List Key → List ℕ → Option Key → Type 0
AreNearest known word (Some key) = (length word ≤ MAX_NEAR_BYTES) × IsMeant known word key
AreNearest known word None =
    length word ≤ MAX_NEAR_BYTES → All (λ other. MAX_EDITS < edits word other) known
