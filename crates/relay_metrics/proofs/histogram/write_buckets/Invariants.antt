use Rattle.std.proofs.Common.{◌≡◌, ◌++◌, take}
use Rattle.relay_metrics.specs.Histogram.{buckets_from}
use Rattle.relay_metrics.proofs.histogram.write_buckets.Given as goal

abbrev pub invariant-loop-place : goal.invariant-loop-place
invariant-loop-place g l = l.into.items
    ≡ l.initial.into.items ++ buckets_from l.family l.rule l.counts 0 (take l.place l.bounds_ms)
