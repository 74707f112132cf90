use Rattle.conntable.proofs.LawLemmas.{ids_rise}
use Rattle.conntable.proofs.laws.ids_rise.Goals as goal

pub returns : goal.returns
returns g c = ids_rise
