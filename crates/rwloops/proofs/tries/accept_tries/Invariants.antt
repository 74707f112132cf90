use Rattle.rwloops.specs.AcceptTrace.{accept_rules, AcceptStandsFor, IsAcceptTry}
use Rattle.rwloops.specs.TryNow.{accept_tries_left}
use Rattle.rwloops.proofs.TryNowLemmas.{IsNowSoFar}
use Rattle.rwloops.proofs.tries.accept_tries.Given as goal

abbrev pub invariant-loop-taken : goal.invariant-loop-taken
invariant-loop-taken g l = IsNowSoFar (accept_rules _) IsAcceptTry
    (λ events. g.P.AcceptTurns.went l.fn.pair events l.pair) (AcceptStandsFor l.accepting)

abbrev pub decreases-loop-taken : goal.decreases-loop-taken
decreases-loop-taken g l = accept_tries_left l.accepting
