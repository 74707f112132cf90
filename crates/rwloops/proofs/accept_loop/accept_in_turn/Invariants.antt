use Rattle.rwloops.specs.AcceptTrace.{accept_rules, AcceptStandsFor, IsAcceptTry}
use Rattle.rwloops.proofs.TraceLemmas.{IsSoFar}
use Rattle.rwloops.proofs.accept_loop.accept_in_turn.Given as goal

abbrev pub invariant-loop : goal.invariant-loop
invariant-loop g l = IsSoFar (accept_rules _) IsAcceptTry (λ events. g.P.AcceptTurns.went l.fn.pair events l.pair)
    (AcceptStandsFor l.accepting)
