use Rattle.deadline_core.proofs.PollHistoryLemmas.{closing_evicted, closing_stays, closing_refuses, open_refuses}
use Rattle.deadline_core.proofs.laws.closing_is_for_good.Goals as goal

pub returns : goal.returns
returns c = record {
  evicted = closing_evicted;
  stays = closing_stays;
  refuses = closing_refuses;
  otherwise =
      open_refuses;
}
