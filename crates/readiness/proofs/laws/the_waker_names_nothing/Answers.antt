use Rattle.readiness.proofs.BatchLemmas.{the_waker_names_nothing}
use Rattle.readiness.proofs.laws.the_waker_names_nothing.Goals as goal

pub returns : goal.returns
returns g c = the_waker_names_nothing
