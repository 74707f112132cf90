use Rattle.net.proofs.LineLooks.{HoldsAll}
use Rattle.net.proofs.lines.Lines.read.Given as goal

-- what came so far is held
abbrev pub invariant-reads : goal.invariant-reads
invariant-reads g l =
    HoldsAll l.fn.self l.self (g.S.Read.remaining l.fn.source) (g.S.Read.remaining l.source)
