-- Keys, and what a call answers where it may lack memory.
use Rattle.std.specs.Prelude.{◌≡◌, ◌≢◌, ℕ, List, Some, None, Result, Ok, Err, codes}
use Rattle.std.specs.Str.{IsUtf8}
use Rattle.toml.specs.Parse.{parse_document}
use Rattle.relay_config.specs.declared.fault.Fault.{Fault}
use Rattle.relay_config.specs.declared.fault.Fault.TheVariants.{Memory, Toml}
use Rattle.relay_config.specs.declared.fault.Key.{Key}
use Rattle.relay_config.specs.declared.fault.Key.TheVariants as key
use Rattle.relay_config.specs.declared.fault.Place.{Place}
use Rattle.relay_config.specs.declared.fault.Spot.{Spot}

-- the word of each key
abbrev pub key_word : Key → List ℕ
key_word key.AcceptsPerSource = codes "accepts_per_source"
key_word key.Admin = codes "admin"
key_word key.Allow = codes "allow"
key_word key.At = codes "at"
key_word key.Backlog = codes "backlog"
key_word key.Backup = codes "backup"
key_word key.Balance = codes "balance"
key_word key.ConnectTimeout = codes "connect_timeout"
key_word key.Connections = codes "connections"
key_word key.ConnectionsPerRule = codes "connections_per_rule"
key_word key.ConnectionsPerSource = codes "connections_per_source"
key_word key.Deny = codes "deny"
key_word key.Every = codes "every"
key_word key.Fall = codes "fall"
key_word key.File = codes "file"
key_word key.Format = codes "format"
key_word key.FromClient = codes "from_client"
key_word key.Health = codes "health"
key_word key.Idle = codes "idle"
key_word key.Keepalive = codes "keepalive"
key_word key.Listen = codes "listen"
key_word key.Log = codes "log"
key_word key.Loops = codes "loops"
key_word key.Metrics = codes "metrics"
key_word key.Mode = codes "mode"
key_word key.Name = codes "name"
key_word key.Path = codes "path"
key_word key.ProxyProtocol = codes "proxy_protocol"
key_word key.ReplaceStale = codes "replace_stale"
key_word key.Resolve = codes "resolve"
key_word key.Rise = codes "rise"
key_word key.Rule = codes "rule"
key_word key.Source = codes "source"
key_word key.Target = codes "target"
key_word key.Timeout = codes "timeout"
key_word key.ToTarget = codes "to_target"
key_word key.UserTimeout = codes "user_timeout"
key_word key.Weight = codes "weight"

-- a key of a table
abbrev pub spot : Place → Key → Spot
spot place key = record { place = place; key = key; item = None }

-- an item of the list at a key
abbrev pub item_spot : Place → Key → ℕ → Spot
item_spot place key number = record { place = place; key = key; item = Some number }

-- what was read is, by its view, the meaning
abbrev pub Reads : {X Y : Type 0} → (X → Y) → Result X Fault → Result Y Fault → Type 0
Reads view (Ok x) meaning = meaning ≡ Ok (view x)
Reads view (Err fault) meaning = meaning ≡ Err fault

-- what was answered is, by its view, the meaning, or else memory was refused
abbrev pub Answers : {X Y : Type 0} → (X → Y) → Result X Fault → Result Y Fault → Type 0
Answers view (Ok x) meaning = meaning ≡ Ok (view x)
Answers view (Err fault) meaning = fault ≢ Memory → meaning ≡ Err fault

-- the fault of a text that is no TOML, or want of memory
abbrev pub IsNoToml : List ℕ → Fault → Type 0
IsNoToml text fault = (fault ≢ Memory) → (line column : ℕ) × (fault ≡ Toml line column) × (IsUtf8 text → parse_document text ≡ None)
