-- What the table of a rule says of its clients.
use Rattle.std.specs.Prelude.{Result, Ok}
use Rattle.config_values.specs.Rate.{rate_at}
use Rattle.toml.specs.Data.{Members}
use Rattle.relay_config.specs.Entries.{ClientsEntry}
use Rattle.relay_config.specs.Fault.{spot}
use Rattle.relay_config.specs.Reading.{◌>>=◌, at_key, if_there, number, spelled}
use Rattle.relay_config.specs.declared.config.TheConstants.{MAX_CONNECTIONS}
use Rattle.relay_config.specs.declared.fault.Fault.{Fault}
use Rattle.relay_config.specs.declared.fault.Key.TheVariants as key
use Rattle.relay_config.specs.declared.fault.Place.{Place}

-- how many clients the rule at a place serves
unfoldable pub clients_in : Place → Members → Result ClientsEntry Fault
clients_in here table = do
  connections ← if_there (number 1 MAX_CONNECTIONS (spot here key.Connections)) (at_key key.Connections table)
  each ← if_there (number 1 MAX_CONNECTIONS (spot here key.ConnectionsPerSource)) (at_key key.ConnectionsPerSource table)
  accepts ← if_there (spelled rate_at (spot here key.AcceptsPerSource)) (at_key key.AcceptsPerSource table)
  Ok (record { connections = connections; source_connections = each; source_accepts = accepts })
