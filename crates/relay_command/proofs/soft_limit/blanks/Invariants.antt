use Rattle.std.specs.Prelude.{◌≡◌, ◌<◌, ℕ, true, slice_index_or}
use Rattle.relay_command.specs.SoftLimit.{is_blank}
use Rattle.relay_command.proofs.soft_limit.blanks.Given as goal

abbrev pub invariant-loop-place : goal.invariant-loop-place
invariant-loop-place l = (k d : ℕ) → k < l.place → is_blank (slice_index_or l.text k d) ≡ true
