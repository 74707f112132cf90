use Rattle.workers_tests.proofs.tests.pairs.both_directions_run_at_once.Given as goal

abbrev pub ghosts-both_run : goal.ghosts-both_run
ghosts-both_run g a = record { name = a.blank.name; parts = a.blank.parts }
