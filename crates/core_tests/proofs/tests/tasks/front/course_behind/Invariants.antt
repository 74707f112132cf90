use Rattle.core_tests.proofs.tests.tasks.front.course_behind.Given as goal

abbrev pub ghosts-resumed : goal.ghosts-resumed
ghosts-resumed g a = record { name = a.blank.name; parts = a.blank.parts }
