use Rattle.std.specs.Prelude.{take}
use Rattle.relay_config.specs.Fronts.{IsInColumn, IsInLine}
use Rattle.relay_config.proofs.config.place_of.Given as goal

abbrev pub invariant-loop-byte : goal.invariant-loop-byte
invariant-loop-byte l = record {
  line : IsInLine (take l.byte-index l.byte-items) l.line;
  column : IsInColumn (take l.byte-index l.byte-items) l.column;
}
