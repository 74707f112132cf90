-- What the table of a rule's checks says.
use Rattle.std.specs.Prelude.{ℕ, List, [], ◌∷◌, Result, Ok, unwrap_or}
use Rattle.config_values.specs.Time.{time_at}
use Rattle.toml.specs.Data.{Data, Members}
use Rattle.relay_config.specs.Entries.{ChecksEntry}
use Rattle.relay_config.specs.Fault.{spot}
use Rattle.relay_config.specs.Reading.{◌>>=◌, at_key, if_there, known_alone, members, number, spelled}
use Rattle.relay_config.specs.declared.fault.Fault.{Fault}
use Rattle.relay_config.specs.declared.fault.Key.{Key}
use Rattle.relay_config.specs.declared.fault.Key.TheVariants as key
use Rattle.relay_config.specs.declared.fault.Place.{Place}
use Rattle.relay_config.specs.declared.fault.Place.TheVariants as place
use Rattle.relay_config.specs.declared.health.TheConstants.{DEFAULT_EVERY_MS, DEFAULT_FALL, DEFAULT_RISE, DEFAULT_TIMEOUT_MS, MAX_IN_A_ROW}

-- the keys of the table
abbrev pub health_keys : List Key
health_keys = key.Every ∷ key.Timeout ∷ key.Fall ∷ key.Rise ∷ []

-- the checks that a table says
unfoldable pub health_in : Place → Members → Result ChecksEntry Fault
health_in here table = do
  alone ← known_alone health_keys here table
  every ← if_there (spelled time_at (spot here key.Every)) (at_key key.Every table)
  timeout ← if_there (spelled time_at (spot here key.Timeout)) (at_key key.Timeout table)
  fall ← if_there (number 1 MAX_IN_A_ROW (spot here key.Fall)) (at_key key.Fall table)
  rise ← if_there (number 1 MAX_IN_A_ROW (spot here key.Rise)) (at_key key.Rise table)
  Ok (record {
    every = unwrap_or every DEFAULT_EVERY_MS;
    timeout = unwrap_or timeout DEFAULT_TIMEOUT_MS;
    fall = unwrap_or fall DEFAULT_FALL;
    rise = unwrap_or rise DEFAULT_RISE;
  })

-- the checks of this rule that a value says
unfoldable pub health_at : ℕ → Data → Result ChecksEntry Fault
health_at rule d = do
  table ← members (spot (place.Rule rule) key.Health) d
  health_in (place.Health rule) table
