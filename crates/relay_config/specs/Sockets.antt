-- What the table of a rule says of its sockets.
use Rattle.std.specs.Prelude.{None, Result, Ok, unwrap_or}
use Rattle.config_values.specs.Mode.{mode_at}
use Rattle.toml.specs.Data.{Members}
use Rattle.relay_config.specs.Entries.{SocketsEntry}
use Rattle.relay_config.specs.Fault.{spot}
use Rattle.relay_config.specs.Reading.{◌>>=◌, at_key, if_there, number, spelled}
use Rattle.relay_config.specs.Values.{keepalive_at, source_at, time_or_never}
use Rattle.relay_config.specs.declared.fault.Fault.{Fault}
use Rattle.relay_config.specs.declared.fault.Key.TheVariants as key
use Rattle.relay_config.specs.declared.fault.Place.{Place}
use Rattle.relay_config.specs.declared.sockets.TheConstants.{MAX_BACKLOG}

-- how the sockets of the rule at a place are set up
unfoldable pub sockets_at : Place → Members → Result SocketsEntry Fault
sockets_at here table = do
  keepalive ← if_there (spelled keepalive_at (spot here key.Keepalive)) (at_key key.Keepalive table)
  timeout ← if_there (spelled time_or_never (spot here key.UserTimeout)) (at_key key.UserTimeout table)
  backlog ← if_there (number 1 MAX_BACKLOG (spot here key.Backlog)) (at_key key.Backlog table)
  source ← if_there (spelled source_at (spot here key.Source)) (at_key key.Source table)
  mode ← if_there (spelled mode_at (spot here key.Mode)) (at_key key.Mode table)
  Ok (record {
    keepalive = unwrap_or keepalive None;
    user_timeout = unwrap_or timeout None;
    backlog = backlog;
    source = source;
    mode = mode;
  })
