use Rattle.lockword_core.proofs.ForGood.{closed_for_good, draining_for_good, destroyed_for_good}
use Rattle.lockword_core.proofs.laws.what_is_done_stays_done.Goals as goal

pub returns-clause-closed : goal.returns-clause-closed
returns-clause-closed c s events e = closed_for_good s events e

pub returns-clause-draining : goal.returns-clause-draining
returns-clause-draining c s events e = draining_for_good s events e

pub returns-clause-destroyed : goal.returns-clause-destroyed
returns-clause-destroyed c s events holder good e = destroyed_for_good s events holder good e
