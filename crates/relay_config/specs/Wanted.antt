-- What is wanted of each key, in words.
use Rattle.std.specs.Prelude.{ℕ, List, Option, Some, None, codes}
use Rattle.relay_config.specs.declared.config.TheConstants.{MAX_RULES}
use Rattle.relay_config.specs.declared.fault.Key.{Key}
use Rattle.relay_config.specs.declared.fault.Key.TheVariants as key
use Rattle.relay_config.specs.declared.fault.Spot.{Spot}
use Rattle.relay_config.specs.declared.listen.TheConstants.{MAX_LISTENERS}
use Rattle.relay_config.specs.declared.nets.TheConstants.{MAX_NETS}
use Rattle.relay_config.specs.declared.target.TheConstants.{MAX_TARGETS}

-- what a value of the key's type isn't
abbrev pub wanted : Key → List ℕ
wanted key.ConnectTimeout = codes "no time (as 500ms, 30s, 5m, 2h, at most a day; or never)"
wanted key.Idle = codes "no time (as 500ms, 30s, 5m, 2h, at most a day; or never)"
wanted key.UserTimeout = codes "no time (as 500ms, 30s, 5m, 2h, at most a day; or never)"
wanted key.Resolve = codes "no time (as 500ms, 30s, 5m, 2h, at most a day; or never)"
wanted key.Connections = codes "not from 1 to 50000"
wanted key.ConnectionsPerRule = codes "not from 1 to 50000"
wanted key.ConnectionsPerSource = codes "not from 1 to 50000"
wanted key.AcceptsPerSource = codes "no rate (as 100/s, 30/m, 5/h; at most 1000000)"
wanted key.Keepalive = codes "no time of whole seconds (as 30s, 5m, at most 32767s; or never)"
wanted key.Loops = codes "not from 1 to 64"
wanted key.Weight = codes "not from 0 to 65535"
wanted key.Admin = codes "no path of a socket (1 to 100 bytes)"
wanted key.Path = codes "no path of a socket (1 to 100 bytes)"
wanted key.Allow = codes "no network (as 10.0.0.0/8, 2001:db8::/32, 10.0.0.1)"
wanted key.Deny = codes "no network (as 10.0.0.0/8, 2001:db8::/32, 10.0.0.1)"
wanted key.FromClient = codes "no network (as 10.0.0.0/8, 2001:db8::/32, 10.0.0.1)"
wanted key.Every = codes "no time (as 500ms, 30s, 5m, 2h, at most a day)"
wanted key.Timeout = codes "no time (as 500ms, 30s, 5m, 2h, at most a day)"
wanted key.Fall = codes "not from 1 to 100"
wanted key.Rise = codes "not from 1 to 100"
wanted key.Backlog = codes "not from 1 to 65535"
wanted key.Source = codes "no IP address (as 10.0.0.1, 2001:db8::1)"
wanted key.ToTarget = codes "none of \"v1\", \"v2\""
wanted key.Mode = codes "no mode (0 and three octal digits, as 0660)"
wanted key.Log = codes "no path of a file (1 to 4095 bytes; - is standard error)"
wanted key.File = codes "no path of a file (1 to 4095 bytes; - is standard error)"
wanted key.Format = codes "none of \"text\", \"json\""
wanted key.Name = codes "no name (a letter, then letters, digits and \"-\", all small, at most 16)"
wanted key.Balance = codes "none of \"round-robin\", \"least-connections\", \"first\", \"source\""
wanted key.Listen = codes "no address to listen at (as tcp:0.0.0.0:443, tcp:[::]:443, unix:/run/x.sock)"
wanted key.Metrics = codes "no address to listen at (as tcp:0.0.0.0:443, tcp:[::]:443, unix:/run/x.sock)"
wanted other = codes "no address (as tcp:10.0.0.1:443, tcp:[::1]:443, unix:/run/x.sock)"

-- the type that the key, or an item of its list, has to have
abbrev pub type_wanted : Key → Option ℕ → List ℕ
type_wanted key.Rule None = codes "a list of tables ([[rule]])"
type_wanted key.Rule (Some item) = codes "a table"
type_wanted key.Target None = codes "a list of tables ([[rule.target]])"
type_wanted key.Target (Some item) = codes "a table"
type_wanted key.Listen None = codes "a list of texts"
type_wanted key.Allow None = codes "a list of texts"
type_wanted key.Deny None = codes "a list of texts"
type_wanted key.FromClient None = codes "a list of texts"
type_wanted key.Admin item = codes "a path in quotes or a table ({ path = .., mode = .. })"
type_wanted key.Log item = codes "a path in quotes or a table ({ file = .., format = .. })"
type_wanted key.ProxyProtocol item = codes "a table ({ from_client = [..], to_target = .. })"
type_wanted key.Health item = codes "a table ({ every = .., timeout = .., fall = .., rise = .. })"
type_wanted key.Connections item = codes "a whole number"
type_wanted key.ConnectionsPerRule item = codes "a whole number"
type_wanted key.ConnectionsPerSource item = codes "a whole number"
type_wanted key.Loops item = codes "a whole number"
type_wanted key.Weight item = codes "a whole number"
type_wanted key.Backlog item = codes "a whole number"
type_wanted key.Fall item = codes "a whole number"
type_wanted key.Rise item = codes "a whole number"
type_wanted key.Backup item = codes "true or false"
type_wanted key.ReplaceStale item = codes "true or false"
type_wanted other item = codes "a text in quotes"

abbrev pub wanted_type : Spot → List ℕ
wanted_type spot = type_wanted spot.key spot.item

-- how many items a list may have
abbrev pub most_of : Key → ℕ
most_of key.Listen = MAX_LISTENERS
most_of key.Target = MAX_TARGETS
most_of key.Allow = MAX_NETS
most_of key.Deny = MAX_NETS
most_of key.FromClient = MAX_NETS
most_of other = MAX_RULES
