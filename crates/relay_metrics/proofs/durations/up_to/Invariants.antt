use Rattle.std.proofs.Common.{◌≡◌}
use Rattle.relay_metrics.specs.Durations.{up_to}
use Rattle.relay_metrics.proofs.durations.up_to.Given as goal

abbrev pub invariant-loop-place : goal.invariant-loop-place
invariant-loop-place l = l.sum ≡ up_to l.counts l.place
