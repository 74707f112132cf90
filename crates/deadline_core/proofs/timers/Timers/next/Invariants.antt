use Rattle.deadline_core.proofs.StaleEntryLemmas.{Ahead}
use Rattle.deadline_core.proofs.timers.Timers.next.Given as goal

abbrev pub invariant-loop-stored : goal.invariant-loop-stored
invariant-loop-stored g l = Ahead l.self l.stored-iterator
