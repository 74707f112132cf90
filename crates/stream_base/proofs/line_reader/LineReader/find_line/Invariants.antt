use Rattle.std.proofs.Common.{◌≡◌, ◌-◌, ◌≤◌, length}
use Rattle.stream_base.specs.declared.line_reader.TheConstants.{CHUNK_BYTES}
use Rattle.stream_base.proofs.LineReaderLemmas.{Went, ahead_in}
use Rattle.stream_base.proofs.line_reader.LineReader.find_line.Given as goal

abbrev pub invariant-loop-self : goal.invariant-loop-self
invariant-loop-self g l = record {
  short : length l.self-inside.line.items ≤ g.row.LIMIT;
  begun : l.self-inside.at ≤ l.self-inside.end;
  whole : length l.self-inside.chunk ≡ CHUNK_BYTES;
  bounded : l.self-inside.end ≤ CHUNK_BYTES;
  went : Went l.fn.self l.self-inside.line.items (ahead_in l.self-inside.chunk l.self-inside.at l.self-inside.end);
}

abbrev pub decreases-loop-self : goal.decreases-loop-self
decreases-loop-self g l = l.self-inside.end - l.self-inside.at
