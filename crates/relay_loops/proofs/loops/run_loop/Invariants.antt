use Rattle.relay_loops.proofs.loops.run_loop.Given as goal

abbrev pub ghosts-run_on-U-Ledger : goal.ghosts-run_on-U-Ledger
ghosts-run_on-U-Ledger g a = record { name = a.up.name; parts = a.up.parts }

abbrev pub ghosts-run_on-D-Ledger : goal.ghosts-run_on-D-Ledger
ghosts-run_on-D-Ledger g a = record { name = a.down.name; parts = a.down.parts }
