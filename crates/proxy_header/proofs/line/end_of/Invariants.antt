use Rattle.proxy_header.specs.Line.{NoEndBelow}
use Rattle.proxy_header.proofs.line.end_of.Given as goal

abbrev pub invariant-loop-at : goal.invariant-loop-at
invariant-loop-at l = NoEndBelow l.bytes l.at
