-- What the text of a rules file says.
use Rattle.std.specs.Prelude.{◌≡◌, ℕ, List}
use Rattle.relay_admin.specs.declared.rules.file.RulesFault.{RulesFault}
use Rattle.relay_admin.specs.declared.rules.verdict.Verdict.TheVariants.{Bad}
use Rattle.relay_admin.specs.declared.serve_fault.ServeFault.{ServeFault}
use Rattle.relay_admin.specs.declared.serve_fault.ServeFault.TheVariants.{BadRules}
use Rattle.relay_admin.specs.rules.Fault.{SaysFault}

-- the fault has the verdict on a text that is no rules file
abbrev pub IsVerdictOn : List ℕ → ServeFault → Type 0
IsVerdictOn text fault = (first : RulesFault) × SaysFault text first × (fault ≡ BadRules (Bad first))
