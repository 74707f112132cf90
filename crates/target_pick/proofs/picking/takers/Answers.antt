use Rattle.target_pick.proofs.TakerLemmas.{none_takes_it}
use Rattle.target_pick.proofs.picking.takers.Goals as goal

pub returns-clause-none : goal.returns-clause-none
returns-clause-none c =
    none_takes_it c.args.targets.now c.count_takers.result c.count_takers.ensures.count
