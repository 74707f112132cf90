use Rattle.readiness.specs.Telling.{tick_of_entry}
use Rattle.readiness.proofs.TellingLemmas.{one_more_told_at}
use Rattle.readiness.proofs.telling.tick_entries.Goals as goal

pub loop-timer-preserved : goal.loop-timer-preserved
loop-timer-preserved g c =
    one_more_told_at (tick_of_entry g.T.HasCell.cell_in c.args.table.now.entries c.args.now) (g.C.Telling.tells c.args.cells.now)
    (g.C.Telling.tells c.loop-timer.cells) (g.C.Telling.tells c.tick_entry.new.cells)
    c.args.due.now c.loop-timer.timer-index _ c.loop-timer-test.true c.loop-timer.invariant c.tick_entry.ensures
