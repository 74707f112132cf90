use Rattle.relay_shared.proofs.IndexLemmas.{what_is_found_stands}
use Rattle.relay_shared.proofs.laws.what_is_found_stands.Goals as goal

pub returns : goal.returns
returns g c = what_is_found_stands
