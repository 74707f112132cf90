-- How a relay runs, as far as somebody says it, and what is in force.
use Rattle.std.specs.Prelude.{◌≡◌, Option, Some, None, option_map}
use Rattle.std.specs.String.{string_bytes}
use Rattle.relay_settings.specs.declared.settings.Settings.{Settings}

-- what was said first, if anything was
abbrev pub first_said : {A : Type 0} → Option A → Option A → Option A
first_said (Some said) second = Some said
first_said None second = second

-- nothing is said
pub record SaysNothing (settings : Settings) : Type 0 where
  pub admin : settings.admin ≡ None
  pub admin_mode : settings.admin_mode ≡ None
  pub loops : settings.loops ≡ None
  pub pairs : settings.pairs ≡ None
  pub per_rule : settings.per_rule ≡ None
  pub connect : settings.connect_ms ≡ None
  pub stale : settings.replaces_stale ≡ None
  pub log : settings.log ≡ None
  pub log_format : settings.log_format ≡ None
  pub metrics : settings.metrics ≡ None

-- these are in force: of each what the words of the command line say, else what the file says
pub record AreInForce (words file settings : Settings) : Type 0 where
  pub admin : option_map string_bytes settings.admin
      ≡ first_said (option_map string_bytes words.admin) (option_map string_bytes file.admin)
  pub admin_mode : settings.admin_mode ≡ first_said words.admin_mode file.admin_mode
  pub loops : settings.loops ≡ first_said words.loops file.loops
  pub pairs : settings.pairs ≡ first_said words.pairs file.pairs
  pub per_rule : settings.per_rule ≡ first_said words.per_rule file.per_rule
  pub connect : settings.connect_ms ≡ first_said words.connect_ms file.connect_ms
  pub stale : settings.replaces_stale ≡ first_said words.replaces_stale file.replaces_stale
  pub log : option_map string_bytes settings.log
      ≡ first_said (option_map string_bytes words.log) (option_map string_bytes file.log)
  pub log_format : settings.log_format ≡ first_said words.log_format file.log_format
  pub metrics : settings.metrics ≡ first_said words.metrics file.metrics
