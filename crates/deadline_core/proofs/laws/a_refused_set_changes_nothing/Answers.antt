use Rattle.deadline_core.proofs.PollHistoryLemmas.{deadline_refused, refusal_refused}
use Rattle.deadline_core.proofs.laws.a_refused_set_changes_nothing.Goals as goal

pub returns : goal.returns
returns c = record { deadline = deadline_refused; refusal = refusal_refused }
