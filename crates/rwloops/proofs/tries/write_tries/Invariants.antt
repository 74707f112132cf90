use Rattle.std.proofs.Common.{length}
use Rattle.rwloops.specs.WriteTrace.{write_try_rules, IsWriteTry, StandsForTries}
use Rattle.rwloops.specs.TryNow.{write_tries_left}
use Rattle.rwloops.proofs.TryNowLemmas.{IsNowSoFar}
use Rattle.rwloops.proofs.tries.write_tries.Given as goal

abbrev pub invariant-loop-writing : goal.invariant-loop-writing
invariant-loop-writing g l = IsNowSoFar (write_try_rules (length l.bytes)) (IsWriteTry l.bytes)
    (λ events. g.P.WriteTurns.went l.fn.pair events l.pair) (StandsForTries l.writing (length l.bytes))

abbrev pub decreases-loop-writing : goal.decreases-loop-writing
decreases-loop-writing g l = write_tries_left l.writing
