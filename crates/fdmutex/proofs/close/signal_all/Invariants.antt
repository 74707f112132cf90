use Rattle.std.proofs.Common.{◌≡◌, false}
use Rattle.base_types.specs.declared.direction.Dir.{Dir}
use Rattle.lockword_core.specs.LockState.{is_same}
use Rattle.lockword.specs.Marks.{NowClosed, HeardOn}
use Rattle.lockword.specs.Places.{closing_place, owed_by}
use Rattle.fdmutex.specs.Deeds.{MadeNoEnd}
use Rattle.fdmutex.proofs.close.signal_all.Given as goal

abbrev pub invariant-loop : goal.invariant-loop
invariant-loop g l = NowClosed (closing_place l.initial.closing) (closing_place l.closing)
    × ((d : Dir) → is_same l.initial.dir d ≡ false → owed_by l.closing d ≡ owed_by l.initial.closing d)
    × MadeNoEnd (closing_place l.initial.closing) (closing_place l.closing)
    × HeardOn (closing_place l.initial.closing) (closing_place l.closing)
