use Rattle.std.proofs.Common.{◌≡◌, ◌<◌, ℕ, false}
use Rattle.std.specs.Prelude.{slice_index_or}
use Rattle.relay_shared.specs.BoundPath.{is_bound_at}
use Rattle.relay_shared.specs.declared.bound_path.BoundPath.{BoundPath}
use Rattle.relay_shared.proofs.bound_path.place_of_path.Given as goal

abbrev pub invariant-loop-place : goal.invariant-loop-place
invariant-loop-place l =
    (k : ℕ) (d : BoundPath) → k < l.place → is_bound_at l.addr (slice_index_or l.paths k d) ≡ false
