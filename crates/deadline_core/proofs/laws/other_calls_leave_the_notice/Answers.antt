use Rattle.deadline_core.proofs.PollHistoryLemmas.{notice_without}
use Rattle.deadline_core.proofs.laws.other_calls_leave_the_notice.Goals as goal

pub returns : goal.returns
returns c = record { same = notice_without }
