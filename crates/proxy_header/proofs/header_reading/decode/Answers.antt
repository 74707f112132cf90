use Rattle.std.proofs.Common.{subst, sym}
use Rattle.proxy_header.specs.HeaderReading.{IsAnswer}
use Rattle.proxy_header.specs.declared.header_reading.Decoded.{Decoded}
use Rattle.proxy_header.specs.declared.header_reading.Decoded.TheVariants.{Whole}
use Rattle.proxy_header.proofs.OneAnswers.{one_answer}
use Rattle.proxy_header.proofs.header_reading.decode.Goals as goal

pub returns-clause-whole : goal.returns-clause-whole
returns-clause-whole c = λ said size. (
  (λ same. subst (IsAnswer c.args.bytes.now) same c.answer.ensures),
  (λ begins. one_answer c.args.bytes.now c.answer.result (Whole said size) c.answer.ensures begins),
)
