-- What callers see of a source over a reader.
use Rattle.std.specs.Borrow.{MutBor}
use Rattle.stream_base.specs.declared.reader_source.ReaderSource.{ReaderSource}

-- the reader that a source reads from
abbrev pub reader_of : {R : Type 0} → ReaderSource R → MutBor R
reader_of source = source.reader
