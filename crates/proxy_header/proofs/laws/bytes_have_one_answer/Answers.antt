use Rattle.proxy_header.proofs.OneAnswers.{one_answer}
use Rattle.proxy_header.proofs.laws.bytes_have_one_answer.Goals as goal

pub returns : goal.returns
returns c = one_answer
