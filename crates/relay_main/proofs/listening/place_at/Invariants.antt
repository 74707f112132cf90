use Rattle.std.proofs.Common.{◌≡◌, ◌<◌, ℕ, false}
use Rattle.std.specs.Prelude.{slice_index_or}
use Rattle.relay_main.specs.Listening.{is_at}
use Rattle.relay_main.specs.declared.listening.GivenListener.{GivenListener}
use Rattle.relay_main.proofs.listening.place_at.Given as goal

abbrev pub invariant-loop-place : goal.invariant-loop-place
invariant-loop-place l =
    (k : ℕ) (d : GivenListener) → k < l.place → is_at l.addr (slice_index_or l.given k d) ≡ false
