-- What the table of the PROXY protocol says.
use Rattle.std.specs.Prelude.{ℕ, List, [], ◌∷◌, Result, Ok}
use Rattle.toml.specs.Data.{Data, Members}
use Rattle.relay_config.specs.Entries.{ProxyEntry}
use Rattle.relay_config.specs.Fault.{spot}
use Rattle.relay_config.specs.Nets.{nets_of}
use Rattle.relay_config.specs.Reading.{◌>>=◌, at_key, if_there, known_alone, members, spelled}
use Rattle.relay_config.specs.Values.{version_at}
use Rattle.relay_config.specs.declared.fault.Fault.{Fault}
use Rattle.relay_config.specs.declared.fault.Key.{Key}
use Rattle.relay_config.specs.declared.fault.Key.TheVariants as key
use Rattle.relay_config.specs.declared.fault.Place.{Place}
use Rattle.relay_config.specs.declared.fault.Place.TheVariants as place

-- the keys of the table
abbrev pub proxy_keys : List Key
proxy_keys = key.FromClient ∷ key.ToTarget ∷ []

-- the headers that a table says
unfoldable pub proxy_in : Place → Members → Result ProxyEntry Fault
proxy_in here table = do
  alone ← known_alone proxy_keys here table
  nets ← nets_of here key.FromClient table
  version ← if_there (spelled version_at (spot here key.ToTarget)) (at_key key.ToTarget table)
  Ok (record { from_client = nets; to_target = version })

-- the headers of this rule that a value says
unfoldable pub proxy_at : ℕ → Data → Result ProxyEntry Fault
proxy_at rule d = do
  table ← members (spot (place.Rule rule) key.ProxyProtocol) d
  proxy_in (place.Proxy rule) table
