use Rattle.std.proofs.Common.{◌≡◌, ◌+◌, ◌-◌, ◌*◌, []}
use Rattle.lockword_script.specs.declared.script.TheConstants.{MAX_LINES, MAX_LINE_BYTES}
use Rattle.lockword_script.specs.Progress.{ahead_of, progress_of, spent, IsReady}
use Rattle.lockword_script.specs.TraceOutcome.{SinkIsWell, SourceIsWell}
use Rattle.lockword_script.proofs.TraceLemmas.{Went}
use Rattle.lockword_script.proofs.trace_run.trace_on.Given as goal

abbrev pub invariant-chunks : goal.invariant-chunks
invariant-chunks g l = record {
  ready : IsReady (progress_of l.run);
  none : ahead_of l.run ≡ [];
  source_same : g.S.Source.stays l.initial.source l.source;
  sink_same : g.K.Sink.stays l.fn.sink l.sink;
  source_well : SourceIsWell (g.S.Source.failed l.initial.source) (g.S.Source.failed l.source)
      (g.S.Source.interruptions l.source);
  sink_well : SinkIsWell (g.K.Sink.failed l.fn.sink) (g.K.Sink.failed l.sink) (g.K.Sink.interruptions l.sink)
      (g.K.Sink.took_nothing l.fn.sink) (g.K.Sink.took_nothing l.sink) (g.K.Sink.flushed l.sink);
  went : Went (g.S.Source.remaining l.initial.source) (g.S.Source.remaining l.source) (g.K.Sink.contents l.fn.sink)
      (g.K.Sink.contents l.sink) (progress_of l.run);
}

abbrev pub decreases-chunks : goal.decreases-chunks
decreases-chunks g l = (MAX_LINE_BYTES + 1) * (MAX_LINES + 2) - spent (progress_of l.run)
