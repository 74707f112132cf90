use Rattle.std.proofs.Common.{length, take, ◌-◌, ◌≡◌, ◌≤◌}
use Rattle.std.specs.Io.KnownBytes.{Appends}
use Rattle.stream_base.specs.Attempt.{flushed_after}
use Rattle.stream_base.proofs.sink.write_to.Given as goal

abbrev pub invariant-loop-at : goal.invariant-loop-at
invariant-loop-at g l = record {
  within : l.at ≤ length l.text;
  written : Appends (g.K.Sink.contents l.initial.sink) (g.K.Sink.contents l.sink) (take l.at l.text);
  uninterrupted : g.K.Sink.interruptions l.sink ≡ 0;
  health : g.K.Sink.failed l.sink ≡ g.K.Sink.failed l.initial.sink;
  progress : g.K.Sink.took_nothing l.sink ≡ g.K.Sink.took_nothing l.initial.sink;
  flushed : g.K.Sink.flushed l.sink ≡ flushed_after (g.K.Sink.flushed l.initial.sink) (take l.at l.text);
  same : g.K.Sink.stays l.initial.sink l.sink;
}

abbrev pub decreases-loop-at : goal.decreases-loop-at
decreases-loop-at g l = length l.text - l.at
