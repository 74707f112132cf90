use Rattle.relay_shared.proofs.IndexLemmas.{an_id_names_one}
use Rattle.relay_shared.proofs.laws.an_id_names_one.Goals as goal

pub returns : goal.returns
returns g c = an_id_names_one
