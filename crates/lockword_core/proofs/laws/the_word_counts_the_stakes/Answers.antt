use Rattle.lockword_core.proofs.Words.{empty, census, state_after}
use Rattle.lockword_core.proofs.InvariantPreserved.{encoded-small}
use Rattle.lockword_core.proofs.ReplayLemmas.{always_consistent}
use Rattle.lockword_core.proofs.WordLaws.{counts_stakes, one_lock}
use Rattle.lockword_core.proofs.laws.the_word_counts_the_stakes.Goals as goal

pub returns-clause-is_word : goal.returns-clause-is_word
returns-clause-is_word c events = encoded-small (census (state_after empty events)) (always_consistent events).counts

pub returns-clause-fields : goal.returns-clause-fields
returns-clause-fields c events f fits e = counts_stakes f (state_after empty events) (always_consistent events) fits e

pub returns-clause-one_lock : goal.returns-clause-one_lock
returns-clause-one_lock c events d = one_lock (state_after empty events) d (always_consistent events)
