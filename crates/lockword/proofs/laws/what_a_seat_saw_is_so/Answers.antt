use Rattle.lockword.proofs.RuleLaws.{saw_closed, saw_draining, saw_done}
use Rattle.lockword.proofs.laws.what_a_seat_saw_is_so.Goals as goal

pub returns-clause-closed : goal.returns-clause-closed
returns-clause-closed g c s fields seat v read at saw = saw_closed s fields seat v read at saw

pub returns-clause-draining : goal.returns-clause-draining
returns-clause-draining g c s fields seat v read at saw = saw_draining s fields seat v read at saw

pub returns-clause-done : goal.returns-clause-done
returns-clause-done g c s seat v reached at saw = saw_done s seat v reached at saw
