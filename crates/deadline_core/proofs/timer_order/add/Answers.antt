use Rattle.deadline_core.proofs.TimerOrderLemmas.{more_from}
use Rattle.deadline_core.proofs.timer_order.add.Goals as goal

pub returns-in-Ok-clause-kept : goal.returns-in-Ok-clause-kept
returns-in-Ok-clause-kept g c = more_from c.args.order.now c.insert.new.self
    (c.args.at, c.args.slot) c.in-Ok.ensures.updates.0
