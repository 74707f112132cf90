use Rattle.std.proofs.Common.{◌∙◌}
use Rattle.relay_loops.proofs.loops.LoopHost.follow.Goals as goal

-- a task is timed last, which leaves all tasks
pub returns-clause-over : goal.returns-clause-over
returns-clause-over g c = λ is. c.keep_time.ensures.kept c.args.token ∙ c.carry_on.ensures.over is

pub returns-clause-stays : goal.returns-clause-stays
returns-clause-stays g c = λ is other. c.keep_time.ensures.kept other ∙ c.carry_on.ensures.stays is other

pub returns-clause-others : goal.returns-clause-others
returns-clause-others g c = λ other apart.
    c.keep_time.ensures.kept other ∙ c.carry_on.ensures.others other apart

pub returns-clause-comes : goal.returns-clause-comes
returns-clause-comes g c = λ is gave. c.keep_time.ensures.come c.args.token (c.carry_on.ensures.comes is gave)

pub returns-clause-armed : goal.returns-clause-armed
returns-clause-armed g c = λ armed. c.keep_time.ensures.armed (c.carry_on.ensures.armed _ _ armed)
