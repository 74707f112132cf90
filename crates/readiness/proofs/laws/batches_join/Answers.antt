use Rattle.readiness.proofs.BatchLemmas.{batches_join}
use Rattle.readiness.proofs.laws.batches_join.Goals as goal

pub returns : goal.returns
returns g c = batches_join
