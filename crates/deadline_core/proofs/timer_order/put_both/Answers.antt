use Rattle.std.proofs.Common.{ap, ◌∙◌, cond}
use Rattle.std.specs.Ordering.{eq_by_cmp}
use Rattle.std.specs.FinMap.{insert}
use Rattle.base_types.specs.declared.direction.Dir.TheVariants.{Read, Write}
use Rattle.deadline_core.specs.DueOrder.{Slot, slot_cmp}
use Rattle.deadline_core.proofs.TimerOrderLemmas.{armed_named, stored_named, stored_more, stored_same, put_back_same}
use Rattle.deadline_core.proofs.timer_order.put_both.Goals as goal

pub returns-in-Ok-clause-stored : goal.returns-in-Ok-clause-stored
returns-in-Ok-clause-stored g c =
    let read : Slot = (c.args.key, Read) in
    let write : Slot = (c.args.key, Write) in
    stored_named c.set_moment.new.moments c.set_moment-2.new.moments c.add-2.new.order write c.args.at
    c.in-Ok.ensures.set c.in_ok-add-2.ensures.added
    (stored_named c.args.moments.now c.set_moment.new.moments c.add-2.new.order read c.args.at
    c.in_ok-before.ensures.set (c.add-2.ensures.kept (c.args.at, read) c.in_ok-add.ensures.added)
    (stored_more c.args.moments.now c.add.new.order c.add-2.new.order c.add-2.ensures.kept
    (stored_more c.args.moments.now c.args.order.now c.add.new.order c.add.ensures.kept c.requires)))

pub returns-in-Ok-clause-named : goal.returns-in-Ok-clause-named
returns-in-Ok-clause-named g c =
    let read : Slot = (c.args.key, Read) in
    let write : Slot = (c.args.key, Write) in
    armed_named c.set_moment.new.moments c.set_moment-2.new.moments write c.args.at c.in-Ok.ensures.set
    ∙ ap (λ m. insert m write c.args.at) (armed_named c.args.moments.now c.set_moment.new.moments read c.args.at
    c.in_ok-before.ensures.set)

pub returns-in-Err-clause-stored : goal.returns-in-Err-clause-stored
returns-in-Err-clause-stored g c =
    let read : Slot = (c.args.key, Read) in
    let step = c.in_ok-before.ensures in
    let same = put_back_same c.args.moments.now c.set_moment.new.moments c.put_back.new.moments read c.args.at
    c.in_ok-before.before step.before step.set
    (λ q. c.put_back.ensures q ∙ ap (cond (eq_by_cmp slot_cmp q read) c.in_ok-before.before)
    (c.in-Err.ensures.unchanged q)) in
    stored_same c.args.moments.now c.put_back.new.moments c.add-2.new.order same
    (stored_more c.args.moments.now c.add.new.order c.add-2.new.order c.add-2.ensures.kept
    (stored_more c.args.moments.now c.args.order.now c.add.new.order c.add.ensures.kept c.requires))
