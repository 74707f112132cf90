use Rattle.lockword_core.proofs.StateLemmas.{empty_consistent, transition_consistent}
use Rattle.lockword_core.proofs.ReplayLemmas.{always_consistent}
use Rattle.lockword_core.proofs.laws.states_are_consistent.Goals as goal

pub returns-clause-empty : goal.returns-clause-empty
returns-clause-empty c = empty_consistent

pub returns-clause-transition : goal.returns-clause-transition
returns-clause-transition c s holder op good = transition_consistent s holder op good

pub returns-clause-replay : goal.returns-clause-replay
returns-clause-replay c events = always_consistent events
