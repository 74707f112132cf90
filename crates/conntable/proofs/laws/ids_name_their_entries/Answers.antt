use Rattle.conntable.proofs.LawLemmas.{ids_name_their_entries}
use Rattle.conntable.proofs.laws.ids_name_their_entries.Goals as goal

pub returns : goal.returns
returns g c = ids_name_their_entries
