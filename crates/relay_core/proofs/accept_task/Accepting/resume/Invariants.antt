use Rattle.relay_core.specs.Accepting.{IsTaking}
use Rattle.relay_core.proofs.accept_task.Accepting.resume.Given as goal

abbrev pub invariant-loop-taken : goal.invariant-loop-taken
invariant-loop-taken g l = IsTaking (g.G.PollAcceptGate.tells l.fn.gate) (g.G.PollAcceptGate.tells l.gate)
    l.fn.self l.self l._taken l._taken
