use Rattle.lockword_core.proofs.WordLaws.{moves_consistently}
use Rattle.lockword_core.proofs.laws.operations_keep_the_census.Goals as goal

pub returns : goal.returns
returns c counts own op answer new change stakes good is one =
    moves_consistently counts own op answer new change stakes good is one
