use Rattle.deadline_core.proofs.OneAnswerLemmas.{one_answer}
use Rattle.deadline_core.proofs.laws.due_has_one_answer.Goals as goal

pub returns : goal.returns
returns c = record { one = one_answer }
