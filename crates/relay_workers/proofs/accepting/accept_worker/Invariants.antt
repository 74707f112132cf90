use Rattle.relay_core.specs.Accepting.{IsAcceptingSoFar}
use Rattle.relay_workers.proofs.accepting.accept_worker.Given as goal

abbrev pub invariant-loop : goal.invariant-loop
invariant-loop g l = IsAcceptingSoFar (g.G.AcceptGate.tells l.fn.gate) (g.G.AcceptGate.tells l.gate) l.accepting
