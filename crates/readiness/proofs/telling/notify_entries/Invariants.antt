use Rattle.std.proofs.Common.{drop}
use Rattle.readiness.specs.Telling.{notices_of_entry}
use Rattle.readiness.proofs.TellingLemmas.{IsToldSoFar}
use Rattle.readiness.proofs.telling.notify_entries.Given as goal

abbrev pub invariant-loop-ready : goal.invariant-loop-ready
invariant-loop-ready g l = IsToldSoFar (notices_of_entry g.T.HasCell.cell_in l.table.entries)
    (g.C.Telling.tells l.initial.cells) (g.C.Telling.tells l.cells) l.ready-items (drop l.ready-index l.ready-items)
