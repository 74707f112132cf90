use Rattle.readiness.specs.Telling.{notices_of_entry}
use Rattle.readiness.proofs.TellingLemmas.{one_more_told_at}
use Rattle.readiness.proofs.telling.notify_entries.Goals as goal

pub loop-ready-preserved : goal.loop-ready-preserved
loop-ready-preserved g c =
    one_more_told_at (notices_of_entry g.T.HasCell.cell_in c.args.table.now.entries) (g.C.Telling.tells c.args.cells.now)
    (g.C.Telling.tells c.loop-ready.cells) (g.C.Telling.tells c.notify_entry.new.cells)
    c.as_slice-ready-items.result.now c.loop-ready.ready-index _ c.loop-ready-test.true c.loop-ready.invariant
    c.notify_entry.ensures
