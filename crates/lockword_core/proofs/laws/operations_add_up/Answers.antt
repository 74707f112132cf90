use Rattle.lockword_core.proofs.OperationLemmas.{adds_up, destroyer}
use Rattle.lockword_core.proofs.laws.operations_add_up.Goals as goal

pub returns-clause-adds_up : goal.returns-clause-adds_up
returns-clause-adds_up c events none = adds_up events none

pub returns-clause-destroyer : goal.returns-clause-destroyer
returns-clause-destroyer c events holder none some = destroyer events holder none some
