use Rattle.std.proofs.Common.{◌<◌, length}
use Rattle.rwloops.specs.ReadTrace.{read_try_rules, IsReadTry, StandsForTries}
use Rattle.rwloops.proofs.TraceLemmas.{IsSoFar}
use Rattle.rwloops.proofs.read_loop.read_in_turn.Given as goal

abbrev pub invariant-loop : goal.invariant-loop
invariant-loop g l = record {
  some : 0 < length l.buf;
  so_far : IsSoFar read_try_rules (IsReadTry (length l.buf)) (λ events. g.P.ReadTurns.went l.fn.pair events l.pair)
      (StandsForTries l.reading);
}
