use Rattle.relay_settings.proofs.ToldLemmas.{told_as_spelled}
use Rattle.relay_settings.proofs.laws.an_address_is_told_as_it_is_spelled.Goals as goal

pub returns : goal.returns
returns c = told_as_spelled
