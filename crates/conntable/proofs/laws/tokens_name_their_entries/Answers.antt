use Rattle.conntable.proofs.LawLemmas.{tokens_name_their_entries}
use Rattle.conntable.proofs.laws.tokens_name_their_entries.Goals as goal

pub returns : goal.returns
returns g c = tokens_name_their_entries
