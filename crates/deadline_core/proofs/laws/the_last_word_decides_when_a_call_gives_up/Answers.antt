use Rattle.deadline_core.proofs.CallHistoryLemmas.{own_moment_decides, told_deadline_decides, limit_without, answered_awaits_nothing}
use Rattle.deadline_core.proofs.laws.the_last_word_decides_when_a_call_gives_up.Goals as goal

pub returns : goal.returns
returns c = record {
  own = own_moment_decides;
  told = told_deadline_decides;
  others = limit_without;
  answered = answered_awaits_nothing;
}
