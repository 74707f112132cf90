use Rattle.std.proofs.Common.{◌≡◌, ◌<◌, ◌∙◌, length}
use Rattle.readiness.specs.TaskAlarms.{alarm_by_place, awaited_at}
use Rattle.readiness.proofs.AlarmLemmas.{closed_at, set_covers, set_placed}
use Rattle.readiness.proofs.tasks.Tasks.renew_time.Goals as goal

pub returns-clause-armed : goal.returns-clause-armed
returns-clause-armed g c = λ armed.
    let old = c.args.self.now in
    let new = c.set_alarm.new.self in
    let at = c.args.place in
    let set : at < length old.alarms → alarm_by_place new at ≡ awaited_at g.H.Host.awaited old at =
    λ below. c.set_alarm.ensures.set below ∙ c.awaited-awaited.ensures in
    closed_at old new at c.set_alarm.ensures.apart
    (set_placed old new at g.H.Host.awaited c.set_alarm.ensures.kept c.set_alarm.ensures.room (armed.placed at) set)
    g.H.Host.awaited (set_covers old new at g.H.Host.awaited c.set_alarm.ensures.kept (armed.placed at) set) armed
