-- Faults of a relay's file.
use Rattle.std.proofs.Common.{◌≡◌, sym, subst, inl, inr}
use Rattle.relay_admin.specs.ServeFault.{IsConfigReadFault, IsFileFault, IsReadFault, bad, no_config_file, no_memory, no_rules_file}
use Rattle.relay_admin.specs.declared.rules.verdict.Verdict.{Verdict}
use Rattle.relay_admin.specs.declared.serve_fault.ServeFault.{ServeFault}
use Rattle.relay_admin.specs.declared.serve_fault.ServeFault.TheVariants.{BadRules, Memory}

pub of_memory : (fault : ServeFault) → fault ≡ Memory → IsFileFault fault
of_memory fault is = subst IsFileFault (sym is) no_memory

pub of_bad : (fault : ServeFault) (verdict : Verdict) → fault ≡ BadRules verdict → IsFileFault fault
of_bad fault verdict is = subst IsFileFault (sym is) (bad verdict)

pub of_read : (fault : ServeFault) → IsReadFault fault → IsFileFault fault
of_read fault (inl is) = subst IsFileFault (sym is) no_rules_file
of_read fault (inr is) = of_memory fault is

pub of_config_read : (fault : ServeFault) → IsConfigReadFault fault → IsFileFault fault
of_config_read fault (inl is) = subst IsFileFault (sym is) no_config_file
of_config_read fault (inr is) = of_memory fault is
