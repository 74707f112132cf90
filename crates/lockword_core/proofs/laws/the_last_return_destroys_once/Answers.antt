use Rattle.lockword_core.proofs.EndCounts.{done_once, last_once}
use Rattle.lockword_core.proofs.EndHolders.{destroyer_returned}
use Rattle.lockword_core.proofs.laws.the_last_return_destroys_once.Goals as goal

pub returns-clause-done_once : goal.returns-clause-done_once
returns-clause-done_once c events = done_once events

pub returns-clause-last_once : goal.returns-clause-last_once
returns-clause-last_once c events = last_once events

pub returns-clause-destroyer : goal.returns-clause-destroyer
returns-clause-destroyer c events holder e = destroyer_returned events holder e
