use Rattle.deadline_core.proofs.DueLawsLemmas.{given_gone, others_stay}
use Rattle.deadline_core.proofs.laws.due_takes_out_what_it_gives.Goals as goal

pub returns : goal.returns
returns c = record { given = given_gone; others = others_stay }
