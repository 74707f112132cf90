use Rattle.std.proofs.Common.{None}
use Rattle.deadline_core.proofs.TimerOrderLemmas.{sets_from}
use Rattle.deadline_core.proofs.timer_order.take_out.Goals as goal

pub returns : goal.returns
returns g c = sets_from c.args.moments.now c.remove.new.self c.args.slot None c.remove.ensures.updates.0
