use Rattle.relay_ledger.proofs.GatherLemmas.{credits_are_conserved}
use Rattle.relay_ledger.proofs.laws.credits_are_conserved.Goals as goal

pub returns : goal.returns
returns c = credits_are_conserved
