use Rattle.deadline_core.proofs.DueLawsLemmas.{replaced, rearmed_waits}
use Rattle.deadline_core.proofs.laws.a_rearmed_timer_forgets_its_old_moment.Goals as goal

pub returns : goal.returns
returns c = record { replaced = replaced; waits = rearmed_waits }
