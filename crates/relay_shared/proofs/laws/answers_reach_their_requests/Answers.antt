use Rattle.relay_shared.proofs.RequestsLemmas.{answers_reach_their_requests}
use Rattle.relay_shared.proofs.laws.answers_reach_their_requests.Goals as goal

pub returns : goal.returns
returns c = answers_reach_their_requests
