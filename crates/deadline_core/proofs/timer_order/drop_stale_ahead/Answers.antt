use Rattle.std.proofs.Common.{◌∙◌, sym}
use Rattle.deadline_core.proofs.StaleEntryLemmas.{without_from, stale_gone}
use Rattle.deadline_core.proofs.timer_order.drop_stale_ahead.Goals as goal

pub loop-order-preserved : goal.loop-order-preserved
loop-order-preserved g c =
    let without = without_from c.loop-order.order c.remove.new.self c.in-Some.first.now c.remove.ensures.updates.0 in
    stale_gone c.args.moments.now c.loop-order.order c.remove.new.self c.in-Some.first.now without
    (sym c.is_current.ensures ∙ c.if-is_current.false) c.loop-order.invariant
