-- Which settings an operator is told of.
use Rattle.std.specs.Prelude.{◌==◌, Bool, true, false, not, Option, Some, None, is_some, map, option_map, if◌then◌else◌, ℕ, List}
use Rattle.std.specs.Str.{bytes_eq}
use Rattle.std.specs.String.{string_bytes}
use Rattle.relay_admin.specs.rules.Addr.{address_of, same_address}
use Rattle.relay_config.specs.Fault.{key_word}
use Rattle.relay_config.specs.declared.fault.Key.{Key}
use Rattle.relay_config.specs.declared.fault.Key.TheVariants as key
use Rattle.relay_config.specs.declared.log.Format.{Format}
use Rattle.relay_config.specs.declared.log.Format.TheVariants as format
use Rattle.relay_settings.specs.declared.settings.Settings.{Settings}
use Rattle.relay_settings.specs.declared.telling.Setting.{Setting}
use Rattle.relay_settings.specs.declared.telling.Setting.TheVariants as setting

-- the key of each setting
abbrev pub key_of_setting : Setting → Key
key_of_setting setting.Admin = key.Admin
key_of_setting setting.AdminMode = key.Mode
key_of_setting setting.Loops = key.Loops
key_of_setting setting.Connections = key.Connections
key_of_setting setting.ConnectionsPerRule = key.ConnectionsPerRule
key_of_setting setting.ConnectTimeout = key.ConnectTimeout
key_of_setting setting.ReplaceStale = key.ReplaceStale
key_of_setting setting.Log = key.Log
key_of_setting setting.LogFormat = key.Format
key_of_setting setting.Metrics = key.Metrics

-- a letter of an option, by that of its key: a hyphen for "_"
abbrev pub option_letter : ℕ → ℕ
option_letter letter = if letter == 95 then 45 else letter

-- the option of each setting: the word of its key, with hyphens
abbrev pub option_word : Setting → List ℕ
option_word setting = map option_letter (key_word (key_of_setting setting))

-- the settings say this one
abbrev pub says : Settings → Setting → Bool
says settings setting.Admin = is_some settings.admin
says settings setting.AdminMode = is_some settings.admin_mode
says settings setting.Loops = is_some settings.loops
says settings setting.Connections = is_some settings.pairs
says settings setting.ConnectionsPerRule = is_some settings.per_rule
says settings setting.ConnectTimeout = is_some settings.connect_ms
says settings setting.ReplaceStale = is_some settings.replaces_stale
says settings setting.Log = is_some settings.log
says settings setting.LogFormat = is_some settings.log_format
says settings setting.Metrics = is_some settings.metrics

-- both are said and are one, or neither is said
abbrev pub same_said : {A : Type 0} → (A → A → Bool) → Option A → Option A → Bool
same_said same (Some one) (Some other) = same one other
same_said same None None = true
same_said same _ _ = false

-- both are true, or neither is
abbrev pub same_truth : Bool → Bool → Bool
same_truth true other = other
same_truth false other = not other

-- the log is to be JSON; where nothing is said, it is text
abbrev pub is_json : Option Format → Bool
is_json (Some format.Json) = true
is_json other = false

-- both settings say the same here
abbrev pub say_same : Setting → Settings → Settings → Bool
say_same setting.Admin one other = same_said bytes_eq (option_map string_bytes one.admin) (option_map string_bytes other.admin)
say_same setting.AdminMode one other = same_said (λ a b. a == b) one.admin_mode other.admin_mode
say_same setting.Loops one other = same_said (λ a b. a.count == b.count) one.loops other.loops
say_same setting.Connections one other = same_said (λ a b. a.count == b.count) one.pairs other.pairs
say_same setting.ConnectionsPerRule one other = same_said (λ a b. a.count == b.count) one.per_rule other.per_rule
say_same setting.ConnectTimeout one other = same_said (same_said (λ a b. a == b)) one.connect_ms other.connect_ms
say_same setting.ReplaceStale one other = same_said same_truth one.replaces_stale other.replaces_stale
say_same setting.Log one other = same_said bytes_eq (option_map string_bytes one.log) (option_map string_bytes other.log)
say_same setting.LogFormat one other = same_truth (is_json one.log_format) (is_json other.log_format)
say_same setting.Metrics one other =
    same_said same_address (option_map address_of one.metrics) (option_map address_of other.metrics)
