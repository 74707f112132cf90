use Rattle.core_tests.proofs.tests.books.crossed.Given as goal

abbrev pub ghosts-across_threads : goal.ghosts-across_threads
ghosts-across_threads g a = record { name = a.blank.name; parts = a.blank.parts }
