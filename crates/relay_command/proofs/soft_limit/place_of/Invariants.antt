use Rattle.std.specs.Prelude.{◌≡◌, ◌==◌, ◌<◌, ℕ, false, slice_index_or}
use Rattle.relay_command.proofs.soft_limit.place_of.Given as goal

abbrev pub invariant-loop-place : goal.invariant-loop-place
invariant-loop-place l = (k d : ℕ) → k < l.place → (slice_index_or l.text k d == l.byte) ≡ false
