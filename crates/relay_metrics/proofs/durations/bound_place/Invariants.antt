use Rattle.std.specs.Prelude.{◌≡◌, ◌<◌, ℕ, false, slice_index_or}
use Rattle.relay_metrics.specs.Durations.{is_within}
use Rattle.relay_metrics.proofs.durations.bound_place.Given as goal

abbrev pub invariant-loop-place : goal.invariant-loop-place
invariant-loop-place l = (k d : ℕ) → k < l.place → is_within l.ns (slice_index_or l.bounds_ms k d) ≡ false
