use Rattle.deadline_core.proofs.PollHistoryLemmas.{deadline_by_set, expired_by_set, never_expired}
use Rattle.deadline_core.proofs.laws.the_last_set_decides.Goals as goal

pub returns : goal.returns
returns c = record { deadline = deadline_by_set; expired = expired_by_set; never = never_expired }
