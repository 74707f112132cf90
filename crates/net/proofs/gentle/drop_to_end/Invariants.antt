use Rattle.net.proofs.Drops.{HasDropped}
use Rattle.net.proofs.gentle.drop_to_end.Given as goal

-- what came so far is counted, and what was kept still is
abbrev pub invariant-reads : goal.invariant-reads
invariant-reads g l =
    HasDropped l.dropped (g.S.Read.remaining l.fn.source) (g.S.Read.remaining l.source)
    × ((first : _) → g.S.Dropping.keeps first l.fn.source → g.S.Dropping.keeps first l.source)
