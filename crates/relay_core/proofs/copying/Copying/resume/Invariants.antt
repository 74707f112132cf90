use Rattle.relay_core.specs.Passing.{IsPassing}
use Rattle.relay_core.proofs.copying.Copying.resume.Given as goal

abbrev pub invariant-loop-turn : goal.invariant-loop-turn
invariant-loop-turn g l = IsPassing g.G.PollGate.takes (g.G.PollGate.tells l.fn.gate) (g.G.PollGate.tells l.gate)
    l.fn.share l.share l.fn.self l.self l._turn l._turn
