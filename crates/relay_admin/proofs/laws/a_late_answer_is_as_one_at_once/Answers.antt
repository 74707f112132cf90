use Rattle.relay_admin.proofs.admin.LaterLemmas.{last_later_as_at_once, later_as_at_once}
use Rattle.relay_admin.proofs.laws.a_late_answer_is_as_one_at_once.Goals as goal

pub returns : goal.returns
returns c = record { line = later_as_at_once; last_line = last_later_as_at_once }
