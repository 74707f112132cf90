use Rattle.std.proofs.Common.{◌∙◌}
use Rattle.readiness.specs.EventLoop.{tasks_of}
use Rattle.readiness.proofs.LendLemmas.{others_named}
use Rattle.relay_loops.specs.LoopTask.{awaited_by_task}
use Rattle.relay_loops.proofs.ArmedLemmas.{changed}
use Rattle.relay_loops.proofs.loops.LoopHost.put_next.Goals as goal

-- its task alone was changed, and is timed last
pub returns-clause-others : goal.returns-clause-others
returns-clause-others g c = λ other away.
    c.keep_time.ensures.kept other
    ∙ others_named (tasks_of c.args.tasks.now) c.args.token c.dial_on.new.self other away

pub returns-clause-armed : goal.returns-clause-armed
returns-clause-armed g c = λ armed.
    c.keep_time.ensures.armed
    (changed (tasks_of c.args.tasks.now) c.args.token c.dial_on.new.self awaited_by_task armed)
