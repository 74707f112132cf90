use Rattle.std.proofs.Common.{drop}
use Rattle.readiness.specs.Telling.{tick_of_entry}
use Rattle.readiness.proofs.TellingLemmas.{IsToldSoFar}
use Rattle.readiness.proofs.telling.tick_entries.Given as goal

abbrev pub invariant-loop-timer : goal.invariant-loop-timer
invariant-loop-timer g l = IsToldSoFar (tick_of_entry g.T.HasCell.cell_in l.table.entries l.now)
    (g.C.Telling.tells l.initial.cells) (g.C.Telling.tells l.cells) l.due (drop l.timer-index l.due)
