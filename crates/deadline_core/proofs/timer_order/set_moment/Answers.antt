use Rattle.std.proofs.Common.{Some}
use Rattle.deadline_core.proofs.TimerOrderLemmas.{sets_from}
use Rattle.deadline_core.proofs.timer_order.set_moment.Goals as goal

pub returns-in-Ok-clause-set : goal.returns-in-Ok-clause-set
returns-in-Ok-clause-set g c = sets_from c.args.moments.now c.insert.new.self c.args.slot
    (Some c.args.at) c.in-Ok.ensures.updates.0
