use Rattle.lockword.specs.Marks.{SameMarks, HeardOn}
use Rattle.lockword.specs.Places.{drains_place}
use Rattle.fdmutex.specs.Deeds.{MadeNoEnd}
use Rattle.fdmutex.proofs.draining.signal_both.Given as goal

abbrev pub invariant-loop : goal.invariant-loop
invariant-loop g l = SameMarks (drains_place l.initial.drains) (drains_place l.drains)
    × MadeNoEnd (drains_place l.initial.drains) (drains_place l.drains)
    × HeardOn (drains_place l.initial.drains) (drains_place l.drains)
