use Rattle.std.proofs.Common.{◌∙◌}
use Rattle.readiness.specs.EventLoop.{tasks_of}
use Rattle.readiness.proofs.LendLemmas.{others_named}
use Rattle.relay_loops.specs.LoopTask.{awaited_by_task}
use Rattle.relay_loops.proofs.ArmedLemmas.{changed}
use Rattle.relay_loops.proofs.loops.LoopHost.set_asked.Goals as goal

-- its task alone was changed, and is timed last
pub returns-clause-others : goal.returns-clause-others
returns-clause-others g c = λ other away.
    c.follow.ensures.others other away
    ∙ others_named (tasks_of c.args.tasks.now) c.args.token c.resume-turn.new.task other away

pub returns-clause-armed : goal.returns-clause-armed
returns-clause-armed g c = λ armed.
    c.follow.ensures.armed
    (changed (tasks_of c.args.tasks.now) c.args.token c.resume-turn.new.task awaited_by_task armed)
