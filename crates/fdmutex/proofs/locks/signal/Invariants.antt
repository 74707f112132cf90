use Rattle.std.proofs.Common.{◌≡◌}
use Rattle.lockword.specs.Marks.{SameMarks, SameDeeds, HeardOn}
use Rattle.lockword.specs.Places.{owing_place, owing_way}
use Rattle.fdmutex.proofs.locks.signal.Given as goal

abbrev pub invariant-loop : goal.invariant-loop
invariant-loop g l = SameMarks (owing_place l.initial.owing) (owing_place l.owing)
    × SameDeeds (owing_place l.initial.owing) (owing_place l.owing)
    × (owing_way l.owing ≡ owing_way l.initial.owing)
    × HeardOn (owing_place l.initial.owing) (owing_place l.owing)
