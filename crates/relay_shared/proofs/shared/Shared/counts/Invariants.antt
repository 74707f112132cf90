use Rattle.std.proofs.Common.{◌≡◌, length, min}
use Rattle.relay_core.specs.declared.loops.TheConstants.{MAX_LOOPS}
use Rattle.relay_shared.proofs.shared.Shared.counts.Given as goal

abbrev pub invariant-loop-handle : goal.invariant-loop-handle
invariant-loop-handle l = length l.counts.items ≡ min l.handle-index MAX_LOOPS
