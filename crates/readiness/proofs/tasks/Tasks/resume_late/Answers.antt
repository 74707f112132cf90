use Rattle.std.proofs.Common.{arith, refl}
use Rattle.readiness.proofs.LateLemmas.{none_late_yet, one_more_late, all_late, due_within, none_past}
use Rattle.readiness.proofs.tasks.Tasks.resume_late.Goals as goal

pub loop-from-init : goal.loop-from-init
loop-from-init g c = none_late_yet g.H.Host.awaited (g.H.Host.tells c.args.host.now) c.args.now c.args.self.now

pub overflow_add-from : goal.overflow_add-from
overflow_add-from g c =
    let below = due_within c.loop-from.self.alarms c.in-Some.place c.args.now c.in-Some.ensures.1 in
    omega (arith, below, c.room.ensures)

pub loop-from-preserved : goal.loop-from-preserved
loop-from-preserved g c = one_more_late g.H.Host.awaited (g.H.Host.tells c.args.host.now)
    (g.H.Host.tells c.loop-from.host) (g.H.Host.tells c.resume_at.new.host) c.args.now c.args.self.now
    c.loop-from.self c.resume_at.new.self c.loop-from.from c.in-Some.place _ refl c.loop-from.invariant
    c.in-Some.ensures c.resume_at.ensures

pub loop-from-smaller : goal.loop-from-smaller
loop-from-smaller g c =
    let below = due_within c.loop-from.self.alarms c.in-Some.place c.args.now c.in-Some.ensures.1 in
    omega (arith, below, c.loop-from.invariant.room, c.in-Some.ensures.0)

pub returns-in-None : goal.returns-in-None
returns-in-None g c = all_late g.H.Host.awaited (g.H.Host.tells c.args.host.now) (g.H.Host.tells c.loop-from.host)
    c.args.now c.args.self.now c.loop-from.self c.loop-from.from c.loop-from.invariant c.in-None.ensures

pub returns : goal.returns
returns g c = all_late g.H.Host.awaited (g.H.Host.tells c.args.host.now) (g.H.Host.tells c.loop-from.host) c.args.now
    c.args.self.now c.loop-from.self c.loop-from.from c.loop-from.invariant
    (none_past c.loop-from.self.alarms c.args.now c.loop-from.from (omega arith))
