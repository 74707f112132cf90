-- What the tables of admin sessions and of the log say, and how a relay runs.
use Rattle.std.specs.Prelude.{List, [], ◌∷◌, None, Result, Ok, unwrap_or}
use Rattle.config_values.specs.Mode.{mode_at}
use Rattle.toml.specs.Data.{Data, Members, as_table}
use Rattle.relay_config.specs.Fault.{spot}
use Rattle.relay_config.specs.Reading.{◌>>=◌, at_key, flag, if_there, known_alone, needed, number, spelled, table_or}
use Rattle.relay_config.specs.Values.{file_path, format_at, listener_at}
use Rattle.relay_config.specs.declared.admin.TheConstants.{MAX_ADMIN_BYTES}
use Rattle.relay_config.specs.declared.fault.Fault.{Fault}
use Rattle.relay_config.specs.declared.fault.Key.{Key}
use Rattle.relay_config.specs.declared.fault.Key.TheVariants as key
use Rattle.relay_config.specs.declared.fault.Place.TheVariants as place
use Rattle.relay_config.specs.declared.log.Format.TheVariants as format
use Rattle.relay_config.specs.declared.log.TheConstants.{MAX_LOG_BYTES}
use Rattle.relay_config.specs.declared.service.TheConstants.{MAX_LOOPS}
use Rattle.relay_config.specs.Entries.{AdminEntry, LogEntry, ServiceEntry}

-- the keys of the admin socket's table
abbrev pub admin_keys : List Key
admin_keys = key.Path ∷ key.Mode ∷ []

-- the admin socket that a table says
unfoldable pub admin_in : Members → Result AdminEntry Fault
admin_in table = do
  alone ← known_alone admin_keys place.Admin table
  value ← needed (spot place.Admin key.Path) (at_key key.Path table)
  path ← spelled (file_path MAX_ADMIN_BYTES) (spot place.Admin key.Path) value
  mode ← if_there (spelled mode_at (spot place.Admin key.Mode)) (at_key key.Mode table)
  Ok (record { path = path; mode = mode })

-- the admin socket at a path, with no mode
unfoldable pub admin_alone : Data → Result AdminEntry Fault
admin_alone d = do
  path ← spelled (file_path MAX_ADMIN_BYTES) (spot place.Top key.Admin) d
  Ok (record { path = path; mode = None })

-- the admin socket that a value says: a table, or a path alone
unfoldable pub admin_at : Data → Result AdminEntry Fault
admin_at d = table_or admin_in (admin_alone d) (as_table d)

-- the keys of the log's table
abbrev pub log_keys : List Key
log_keys = key.File ∷ key.Format ∷ []

-- the log that a table says
unfoldable pub log_in : Members → Result LogEntry Fault
log_in table = do
  alone ← known_alone log_keys place.Log table
  value ← needed (spot place.Log key.File) (at_key key.File table)
  file ← spelled (file_path MAX_LOG_BYTES) (spot place.Log key.File) value
  form ← if_there (spelled format_at (spot place.Log key.Format)) (at_key key.Format table)
  Ok (record { file = file; format = unwrap_or form format.Text })

-- the log at a path, as text
unfoldable pub log_alone : Data → Result LogEntry Fault
log_alone d = do
  file ← spelled (file_path MAX_LOG_BYTES) (spot place.Top key.Log) d
  Ok (record { file = file; format = format.Text })

-- the log that a value says: a table, or a path alone
unfoldable pub log_at : Data → Result LogEntry Fault
log_at d = table_or log_in (log_alone d) (as_table d)

-- ---- How a relay runs

-- how a relay runs, as a table says
unfoldable pub service_in : Members → Result ServiceEntry Fault
service_in table = do
  loops ← if_there (number 1 MAX_LOOPS (spot place.Top key.Loops)) (at_key key.Loops table)
  replaces ← if_there (flag (spot place.Top key.ReplaceStale)) (at_key key.ReplaceStale table)
  metrics ← if_there (spelled listener_at (spot place.Top key.Metrics)) (at_key key.Metrics table)
  admin ← if_there admin_at (at_key key.Admin table)
  Ok (record { loops = loops; replaces_stale = replaces; metrics = metrics; admin = admin })
