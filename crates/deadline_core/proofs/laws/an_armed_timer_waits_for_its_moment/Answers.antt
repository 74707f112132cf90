use Rattle.deadline_core.proofs.DueLawsLemmas.{waits}
use Rattle.deadline_core.proofs.laws.an_armed_timer_waits_for_its_moment.Goals as goal

pub returns : goal.returns
returns c = record { waits = waits }
