use Rattle.deadline_core.proofs.DueLawsLemmas.{all_due}
use Rattle.deadline_core.proofs.laws.fewer_than_256_are_all_that_are_due.Goals as goal

pub returns : goal.returns
returns c = record { all = all_due }
