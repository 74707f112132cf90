use Rattle.conntable.proofs.LawLemmas.{removed_names_nothing}
use Rattle.conntable.proofs.laws.removed_names_nothing.Goals as goal

pub returns : goal.returns
returns g c = removed_names_nothing
