use Rattle.relay_shared.proofs.IndexLemmas.{ids_are_given_once}
use Rattle.relay_shared.proofs.laws.ids_are_given_once.Goals as goal

pub returns : goal.returns
returns g c = ids_are_given_once
