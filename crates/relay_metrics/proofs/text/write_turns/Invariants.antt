use Rattle.std.proofs.Common.{◌≡◌, ◌++◌, take}
use Rattle.relay_metrics.specs.Text.{turns_from}
use Rattle.relay_metrics.proofs.text.write_turns.Given as goal

abbrev pub invariant-loop-place : goal.invariant-loop-place
invariant-loop-place g l =
    l.into.items ≡ l.initial.into.items ++ turns_from 0 (take l.place l.turns)
