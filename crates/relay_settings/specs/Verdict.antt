-- What is said of a configuration.
use Rattle.std.specs.Prelude.{◌≡◌, ◌≢◌, ◌-◌, ◌^◌, ℕ, List, length, min}
use Rattle.relay_admin.specs.declared.rules.verdict.Verdict.{Verdict}
use Rattle.relay_admin.specs.declared.rules.verdict.Verdict.TheVariants.{Rules, Bad, BadConfig}
use Rattle.relay_config.specs.declared.fault.Fault.{Fault}
use Rattle.relay_config.specs.declared.fault.Fault.TheVariants as fault
use Rattle.relay_settings.specs.Meaning.{IsFirstFault, SaidEntry, SaysAll}

-- the verdict says a fault of a configuration
abbrev pub IsOfConfig : Verdict → Type 0
IsOfConfig (BadConfig why) = Unit {0}
IsOfConfig other = ⊥

-- the text is a configuration that is carried out, with so many rules, or has a first fault
abbrev pub IsConfigVerdict : List ℕ → Verdict → Type 0
IsConfigVerdict text (Rules count) =
    (said : SaidEntry) × SaysAll text said × (count ≡ min (length said.rules) (2 ^ 32 - 1))
IsConfigVerdict text (BadConfig why) = (first : Fault) × (first ≢ fault.Memory) × IsFirstFault text first
IsConfigVerdict text (Bad first) = ⊥
