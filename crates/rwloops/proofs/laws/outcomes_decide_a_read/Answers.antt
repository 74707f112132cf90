use Rattle.rwloops.proofs.AnswerLemmas.{outcomes_decide_a_read}
use Rattle.rwloops.proofs.laws.outcomes_decide_a_read.Goals as goal

pub returns : goal.returns
returns c = outcomes_decide_a_read
