use Rattle.std.proofs.Common.{◌≡◌}
use Rattle.std.specs.Io.KnownBytes.{Keeps}
use Rattle.stream_base.proofs.sink.write_some.Given as goal

abbrev pub invariant-loop : goal.invariant-loop
invariant-loop g l = record {
  kept : Keeps (g.K.Sink.contents l.initial.sink) (g.K.Sink.contents l.sink);
  health : g.K.Sink.failed l.sink ≡ g.K.Sink.failed l.initial.sink;
  progress : g.K.Sink.took_nothing l.sink ≡ g.K.Sink.took_nothing l.initial.sink;
  flushed : g.K.Sink.flushed l.sink ≡ g.K.Sink.flushed l.initial.sink;
  same : g.K.Sink.stays l.initial.sink l.sink;
  counted : g.K.Sink.interruptions l.sink ≡ l.counter;
}
