use Rattle.deadline_core.proofs.PollHistoryLemmas.{notice_given, notice_used_up, notice_forgotten, notice_never}
use Rattle.deadline_core.proofs.PollHistoryLemmas.{no_second_go}
use Rattle.deadline_core.proofs.laws.a_notice_serves_one_go.Goals as goal

pub returns : goal.returns
returns c = record {
  given = notice_given;
  used_up = notice_used_up;
  forgotten = notice_forgotten;
  never =
      notice_never;
  no_second_go = no_second_go;
}
