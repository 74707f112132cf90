use Rattle.deadline_core.proofs.DueLawsLemmas.{silent}
use Rattle.deadline_core.proofs.laws.a_disarmed_timer_is_never_due.Goals as goal

pub returns : goal.returns
returns c = record { silent = silent }
