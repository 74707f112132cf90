use Rattle.relay_core.proofs.LawsLemmas.{pauses_are_capped}
use Rattle.relay_core.proofs.laws.pauses_are_capped.Goals as goal

pub returns : goal.returns
returns c = pauses_are_capped
