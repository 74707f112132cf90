-- Why a relay doesn't run, or can't go on.
use Rattle.std.specs.Prelude.{◌⊎◌, ◌≡◌}
use Rattle.relay_admin.specs.declared.rules.verdict.Verdict.{Verdict}
use Rattle.relay_admin.specs.declared.serve_fault.ServeFault.{ServeFault}
use Rattle.relay_admin.specs.declared.serve_fault.ServeFault.TheVariants.{BadRules, ConfigFile, RulesFile, Device, Memory}

-- a fault of reading a rules file
abbrev pub IsReadFault : ServeFault → Type 0
IsReadFault fault = (fault ≡ RulesFile) ⊎ (fault ≡ Memory)

-- a fault of reading a configuration
abbrev pub IsConfigReadFault : ServeFault → Type 0
IsConfigReadFault fault = (fault ≡ ConfigFile) ⊎ (fault ≡ Memory)

-- why a relay's file says no rules: it can't be read, it is bad, or memory is refused
pub data IsFileFault : ServeFault → Type 0 where
  no_rules_file : IsFileFault RulesFile
  no_config_file : IsFileFault ConfigFile
  bad : (verdict : Verdict) → IsFileFault (BadRules verdict)
  no_memory : IsFileFault Memory

-- a fault that can come of a relay which listens
abbrev pub IsRunFault : ServeFault → Type 0
IsRunFault fault = (fault ≡ Device) ⊎ (fault ≡ Memory)
