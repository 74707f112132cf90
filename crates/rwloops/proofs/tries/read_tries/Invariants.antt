use Rattle.std.proofs.Common.{◌<◌, length}
use Rattle.rwloops.specs.ReadTrace.{read_try_rules, IsReadTry, StandsForTries}
use Rattle.rwloops.specs.TryNow.{read_tries_left}
use Rattle.rwloops.proofs.TryNowLemmas.{IsNowSoFar}
use Rattle.rwloops.proofs.tries.read_tries.Given as goal

abbrev pub invariant-loop-count : goal.invariant-loop-count
invariant-loop-count g l = record {
  some : 0 < length l.buf;
  so_far : IsNowSoFar read_try_rules (IsReadTry (length l.buf)) (λ events. g.P.ReadTurns.went l.fn.pair events l.pair)
      (StandsForTries l.reading);
}

abbrev pub decreases-loop-count : goal.decreases-loop-count
decreases-loop-count g l = read_tries_left l.reading
