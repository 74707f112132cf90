-- What callers see of a sink over a writer.
use Rattle.std.specs.Borrow.{MutBor}
use Rattle.stream_base.specs.declared.writer_sink.WriterSink.{WriterSink}

-- the writer that a sink writes to
abbrev pub writer_of : {W : Type 0} → WriterSink W → MutBor W
writer_of sink = sink.writer
