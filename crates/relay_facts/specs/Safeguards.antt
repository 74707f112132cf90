-- A relay's safeguards, and when a rule takes no connection more.
use Rattle.std.specs.Prelude.{◌≤◌, ℕ, false, Option, Some, None, unwrap_or}
use Rattle.relay_core.specs.declared.connection_limit.PairLimit.{PairLimit}
use Rattle.relay_facts.specs.declared.safeguards.Safeguards.{Safeguards}
use Rattle.relay_settings.specs.Settings.{first_said}
use Rattle.relay_settings.specs.declared.settings.Settings.{Settings}

-- those of a relay with these settings: without a word of it a target has 5,000 milliseconds, a rule
-- as many connections as all, and no path gives way
abbrev pub safeguards_of : Settings → Safeguards
safeguards_of settings = record {
  connect_ms = unwrap_or settings.connect_ms (Some 5000);
  per_rule = settings.per_rule;
  replaces_stale = unwrap_or settings.replaces_stale false;
}

-- how many connections of a rule stand at once: as many as it says itself, else as many as is said of each
-- rule; without either as many as of all
abbrev pub rule_limit : Option PairLimit → Option PairLimit → Option PairLimit
rule_limit own each = first_said own each

-- a rule with this limit, of which so many connections stand, has as many as it may
abbrev pub IsAtRuleLimit : Option PairLimit → ℕ → Type 0
IsAtRuleLimit (Some limit) standing = limit.count ≤ standing
IsAtRuleLimit None standing = ⊥
