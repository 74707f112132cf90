use Rattle.deadline_core.proofs.PollHistoryLemmas.{stays_expired}
use Rattle.deadline_core.proofs.laws.expired_until_the_next_set.Goals as goal

pub returns : goal.returns
returns c = record { stays = stays_expired }
