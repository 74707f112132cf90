use Rattle.std.proofs.Common.{arith}
use Rattle.relay_admin.specs.declared.rules.verdict.Verdict.TheVariants.{Bad}
use Rattle.relay_settings.proofs.conversion.convert.Goals as goal

pub returns-in-Err-clause-bad : goal.returns-in-Err-clause-bad
returns-in-Err-clause-bad g c = λ one.
    (Bad c.in-Err.fault, c.in-Err.ensures.fault, c.print.ensures.said (λ three. absurd (grind (arith, one, three))))
