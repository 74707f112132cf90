use Rattle.workers_tests.proofs.tests.copies.course_of.Given as goal

abbrev pub ghosts-copied : goal.ghosts-copied
ghosts-copied g a = record { name = a.blank.name; parts = a.blank.parts }
