use Rattle.lockword_core.proofs.WordLaws.{same_outcome, same_word}
use Rattle.lockword_core.proofs.laws.the_word_decides.Goals as goal

pub returns-clause-same_outcome : goal.returns-clause-same_outcome
returns-clause-same_outcome c one other own kind good_one good_other e =
    same_outcome one other own kind good_one good_other e

pub returns-clause-same_word : goal.returns-clause-same_word
returns-clause-same_word
    c one other own kind answer new change of_one of_other good_one good_other e is changes_one changes_other =
    same_word one other own kind answer new change of_one of_other good_one good_other e is changes_one changes_other
