use Rattle.workers_tests.proofs.tests.copies.counted.share_grows_by_what_a_telling_gate_wrote.Given as goal

abbrev pub ghosts-counted_run : goal.ghosts-counted_run
ghosts-counted_run g a = record { name = a.blank.name; parts = a.blank.parts }
