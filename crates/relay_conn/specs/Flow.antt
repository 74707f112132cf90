-- What a way does that goes on.
use Rattle.std.specs.Prelude.{◌≡◌, ◌<◌, ◌≤◌, ◌↔◌, ℕ, Bool, true, false, List, [], Some, None, length}
use Rattle.relay_core.specs.CopyTrace.{GateCall}
use Rattle.relay_core.specs.SourceState.{resumed}
use Rattle.relay_core.specs.Passing.{IsPassing, IsPassed, IsStop, next_dir, unwritten, IfWaits, IfEnded}
use Rattle.relay_core.specs.declared.passing.Step.{Step}
use Rattle.relay_core.specs.declared.passing.Step.TheVariants.{Again}
use Rattle.relay_conn.specs.declared.flow.Flow.{Flow}

-- a write that is Ok took some of what it was offered
abbrev pub TakesSome : ℕ → ℕ → Type 0
TakesSome offered count = (0 < count) × (count ≤ offered)

-- what a socket carried isn't told
abbrev pub Untold : List GateCall → Type 0
Untold calls = ⊥

module _ {L R : Type 0} where
  -- a way whose gate is resumed, with what was told of its source
  abbrev pub heard : Flow L R → Bool → Flow L R
  heard flow stop_ahead = record flow {
    gate = record flow.gate {
      source_state = resumed flow.gate.source_state stop_ahead;
      blocked = None;
    };
  }

  -- a way has made so many calls, of which at most so many are reads, and its share grew by what
  -- they wrote
  abbrev pub HasPassed : Flow L R → Flow L R → (least reads : ℕ) → Type 0
  HasPassed old new least reads =
      IsPassing TakesSome Untold Untold old.share new.share old.copying new.copying least reads

  -- a way copied and came to this step: after eight rounds, or as many calls, others have their
  -- turn; it waits for the direction of its next call, which would have blocked; or a call ended it
  pub record Copies (old new : Flow L R) (step : Step) : Type 0 where
    pub again : step ≡ Again → HasPassed old new 8 8
    pub waits : IfWaits step (λ dir. HasPassed old new 0 8)
    pub blocked : IfWaits step (λ dir. new.gate.blocked ≡ Some dir)
    pub next : IfWaits step (λ dir. dir ≡ next_dir new.copying)
    pub ended : IfEnded step (λ ended.
        IsPassed TakesSome Untold Untold old.share new.share old.copying ended 8)
    pub passed : new.passed ≡ new.share

  -- a way wrote of its header, and read nothing
  pub data Heads (old new : Flow L R) : Step → Type 0 where
    -- of what was left of it a part was taken, or all; what wasn't is left then
    IsTaken : (count : ℕ) → IsPassing TakesSome Untold Untold 0 count old.copying new.copying 1 0
        → (new.heading ≡ true ↔ 0 < length (unwritten new.copying)) → Heads old new Again
    -- nothing was left of it
    IsOver : unwritten old.copying ≡ [] → new.copying ≡ old.copying → new.heading ≡ false
        → Heads old new Again
    -- none of it was taken, since the call would have blocked, or the way ended
    IsStopped : {step : Step} → IsStop (next_dir new.copying) (λ dir. new.gate.blocked ≡ Some dir)
        (IsPassing TakesSome Untold Untold 0 0 old.copying new.copying 0 0)
        (λ ended. (count : ℕ) × IsPassed TakesSome Untold Untold 0 count old.copying ended 0) step
        → new.copying ≡ old.copying → new.heading ≡ old.heading → Heads old new step

  -- a way went on: with its header, as long as that isn't written, of which its share counts nothing and
  -- nobody is told; and then with what its source gives
  pub record Went (old new : Flow L R) (step : Step) : Type 0 where
    pub heads : old.heading ≡ true → Heads old new step
    pub share : old.heading ≡ true → new.share ≡ old.share
    pub told : old.heading ≡ true → new.passed ≡ old.passed
    pub copies : old.heading ≡ false → Copies old new step
    pub headed : old.heading ≡ false → new.heading ≡ false
