use Rattle.rwloops.proofs.AnswerLemmas.{outcomes_decide_a_write}
use Rattle.rwloops.proofs.laws.outcomes_decide_a_write.Goals as goal

pub returns : goal.returns
returns c = outcomes_decide_a_write
