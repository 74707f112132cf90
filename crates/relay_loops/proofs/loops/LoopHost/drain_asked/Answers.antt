use Rattle.std.proofs.Common.{◌∙◌, sym, ap}
use Rattle.std.specs.Option.{option_copied_mut}
use Rattle.readiness.specs.EventLoop.{tasks_of}
use Rattle.readiness.proofs.LendLemmas.{others_named}
use Rattle.relay_loops.specs.LoopTask.{awaited_by_task}
use Rattle.relay_loops.proofs.ArmedLemmas.{changed_alike}
use Rattle.relay_loops.proofs.loops.LoopHost.drain_asked.Goals as goal

-- its task alone was changed, which awaits what it did
pub returns-in-Some-clause-others : goal.returns-in-Some-clause-others
returns-in-Some-clause-others g c = λ other away.
    others_named (tasks_of c.args.tasks.now) c.args.token c.drain.new.self other away

pub returns-in-Some-clause-armed : goal.returns-in-Some-clause-armed
returns-in-Some-clause-armed g c = λ armed.
    changed_alike (tasks_of c.args.tasks.now) c.args.token c.in-Some.task.now c.drain.new.self awaited_by_task
    (sym c.task_mut.ensures.value ∙ ap option_copied_mut c.in-Some.is) c.drain.ensures.awaits armed
