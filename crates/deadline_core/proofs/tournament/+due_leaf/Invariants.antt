use Rattle.deadline_core.proofs.tournament.+due_leaf.Given as goal

abbrev pub decreases-due_leaf : goal.decreases-due_leaf
decreases-due_leaf l = l.width
