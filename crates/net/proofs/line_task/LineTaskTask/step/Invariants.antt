use Rattle.net.specs.LineTask.{Rounds}
use Rattle.net.proofs.line_task.LineTaskTask.step.Given as goal

-- one thing after the other was done so far
abbrev pub invariant-rounds : goal.invariant-rounds
invariant-rounds g l = Rounds g.H.LineHandler.answers l.fn.cause l.fn.self l.self
