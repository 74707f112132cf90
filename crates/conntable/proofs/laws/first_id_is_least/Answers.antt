use Rattle.conntable.proofs.LawLemmas.{first_id_is_least}
use Rattle.conntable.proofs.laws.first_id_is_least.Goals as goal

pub returns : goal.returns
returns g c = first_id_is_least
