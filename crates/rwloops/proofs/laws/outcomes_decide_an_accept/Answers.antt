use Rattle.rwloops.proofs.AnswerLemmas.{outcomes_decide_an_accept}
use Rattle.rwloops.proofs.laws.outcomes_decide_an_accept.Goals as goal

pub returns : goal.returns
returns g c = outcomes_decide_an_accept
