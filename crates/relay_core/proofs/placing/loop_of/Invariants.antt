use Rattle.std.proofs.Common.{ℕ, ◌<◌, ◌≤◌, length, get_or}
use Rattle.relay_core.proofs.placing.loop_of.Given as goal

abbrev pub invariant-loop-place : goal.invariant-loop-place
invariant-loop-place l = record {
  within : l.fewest < length l.counts;
  least : (k : ℕ) → k < l.place → get_or l.counts l.fewest 0 ≤ get_or l.counts k 0;
  first : (k : ℕ) → k < l.fewest → get_or l.counts l.fewest 0 < get_or l.counts k 0;
}
