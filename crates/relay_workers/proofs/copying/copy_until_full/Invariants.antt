use Rattle.std.proofs.Common.{◌<◌, length}
use Rattle.relay_workers.specs.CopyTrace.{IsCopiedSoFar}
use Rattle.relay_workers.proofs.copying.copy_until_full.Given as goal

abbrev pub invariant-loop : goal.invariant-loop
invariant-loop g l = record {
  room : 0 < length l.buf;
  so_far : IsCopiedSoFar (g.G.CopyGate.tells l.fn.gate) (g.G.CopyGate.tells l.gate) l.fn.share l.share;
}
