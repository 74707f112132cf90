use Rattle.std.proofs.Common.{arith, rules, sym}
use Rattle.std.proofs.lemmas.Grind.{common_steps}
use Rattle.proxy_header.proofs.Fronts.{agrees_head}
use Rattle.proxy_header.proofs.OneAnswers.{head_is_faulty}
use Rattle.proxy_header.proofs.header_reading.version2.Goals as goal

pub returns-in-Some : goal.returns-in-Some
returns-in-Some c =
    head_is_faulty c.args.bytes.now c.in-Some.fault (agrees_head c.args.bytes.now c.requires (omega arith))
    (first_of (search rules, cc, grind (arith, common_steps)))
