use Rattle.std.proofs.Common.{length}
use Rattle.rwloops.specs.WriteTrace.{write_try_rules, IsWriteTry, StandsForTries}
use Rattle.rwloops.proofs.TraceLemmas.{IsSoFar}
use Rattle.rwloops.proofs.write_loop.write_in_turn.Given as goal

abbrev pub invariant-loop : goal.invariant-loop
invariant-loop g l = IsSoFar (write_try_rules (length l.bytes)) (IsWriteTry l.bytes)
    (λ events. g.P.WriteTurns.went l.fn.pair events l.pair) (StandsForTries l.writing (length l.bytes))
