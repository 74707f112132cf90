-- What the table of a rule says of who may connect.
use Rattle.std.specs.Prelude.{Result, Ok}
use Rattle.toml.specs.Data.{Members}
use Rattle.relay_config.specs.Entries.{AccessEntry}
use Rattle.relay_config.specs.Nets.{nets_of}
use Rattle.relay_config.specs.Reading.{◌>>=◌}
use Rattle.relay_config.specs.declared.fault.Fault.{Fault}
use Rattle.relay_config.specs.declared.fault.Key.TheVariants as key
use Rattle.relay_config.specs.declared.fault.Place.{Place}

-- who may connect to the rule at a place
unfoldable pub access_in : Place → Members → Result AccessEntry Fault
access_in here table = do
  allow ← nets_of here key.Allow table
  deny ← nets_of here key.Deny table
  Ok (record { allow = allow; deny = deny })
