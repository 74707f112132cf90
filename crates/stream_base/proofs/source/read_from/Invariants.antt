use Rattle.std.proofs.Common.{◌≡◌}
use Rattle.std.specs.Io.KnownBytes.{Keeps}
use Rattle.stream_base.proofs.source.read_from.Given as goal

abbrev pub invariant-loop : goal.invariant-loop
invariant-loop g l = record {
  kept : Keeps (g.S.Source.remaining l.initial.source) (g.S.Source.remaining l.source);
  health : g.S.Source.failed l.source ≡ g.S.Source.failed l.initial.source;
  same : g.S.Source.stays l.initial.source l.source;
  counted : g.S.Source.interruptions l.source ≡ l.counter;
}
