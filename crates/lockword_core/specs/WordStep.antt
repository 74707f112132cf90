-- What a step on the packed word tells of the operation that it is.
use Rattle.std.specs.Prelude.{◌≡◌, ℕ, List, Result, Ok, Err}
use Rattle.lockword_core.specs.declared.stake.Stake.{Stake}
use Rattle.lockword_core.specs.declared.stake.Stake.TheVariants as stake
use Rattle.lockword_core.specs.declared.stake.Op.{Op}
use Rattle.lockword_core.specs.declared.stake.Op.TheVariants as op
use Rattle.lockword_core.specs.declared.stake.Answer.{Answer}
use Rattle.lockword_core.specs.declared.stake.Answer.TheVariants as answer
use Rattle.lockword_core.specs.declared.transition.Kind.{Kind}
use Rattle.lockword_core.specs.declared.transition.Kind.TheVariants as kind
use Rattle.lockword_core.specs.declared.transition.After.{After}
use Rattle.lockword_core.specs.declared.transition.After.TheVariants as after
use Rattle.lockword_core.specs.declared.transition.Refused.{Refused}
use Rattle.lockword_core.specs.declared.transition.Refused.TheVariants as why
use Rattle.lockword_core.specs.LockState.{LockState, Census, census, encoded}
use Rattle.lockword_core.specs.LockInvariant.{ChangesOneStake}
use Rattle.lockword_core.specs.Transition.{Change, Outcome, moved, refused, lock_stake}
use Rattle.lockword_core.specs.Transition.{drains_stake, changed}

-- the operation that a step of this kind is
abbrev pub op_of : Kind → Op
op_of kind.Incref = op.Incref
op_of kind.Decref = op.Decref
op_of (kind.Lock d) = op.Lock d
op_of (kind.Unlock d) = op.Unlock d
op_of kind.Close = op.Close
op_of kind.Drain = op.Drain

-- the answer that a refusal is
abbrev pub refusal_of : Refused → Answer
refusal_of why.Closed = answer.Closed
refusal_of why.TooMany = answer.TooMany
refusal_of why.Misuse = answer.Misuse
refusal_of why.Draining = answer.Draining

-- what a holder is answered, and has, where a step of this kind came to this; what no step comes to
-- is a misuse
abbrev pub gained : Kind → After → Answer × Stake
gained kind.Incref after.Held = (answer.Held, stake.Ref)
gained (kind.Lock d) after.Held = (answer.Held, lock_stake d)
gained (kind.Lock d) after.Queued = (answer.Queued, stake.Waits d)
gained (kind.Unlock d) after.Owes = (answer.Owes, stake.Owes d)
gained (kind.Unlock d) after.Kept = (answer.Kept, stake.Free)
gained (kind.Unlock d) after.Last = (answer.Last, stake.Last)
gained kind.Decref after.Kept = (answer.Kept, stake.Free)
gained kind.Decref after.Last = (answer.Last, stake.Last)
gained kind.Close (after.Closing r w) = (answer.Closing, stake.Closing r w)
gained kind.Drain (after.Drained r w) = (answer.Drained, drains_stake r w)
gained _ _ = (answer.Misuse, stake.Free)

-- the result is this outcome: its refusal, or its answer and stake with the word of the counts
-- after it
abbrev pub Tells : Census → Stake → Kind → Outcome → Result (ℕ × After) Refused → Type 0
Tells c own k o (Err e) = o ≡ refused (refusal_of e)
Tells c own k o (Ok (word, after)) =
    (change : Change) × (o ≡ moved (gained k after).0 (gained k after).1 change)
    × ((stakes : List Stake) → ChangesOneStake c.stakes own stakes (gained k after).1
    → word ≡ encoded (changed c stakes change))

-- the result is this transition from the state: its refusal, which changes nothing, or its answer
-- with its word
abbrev pub TellsTransition : LockState → Kind → LockState × Answer → Result (ℕ × After) Refused
    → Type 0
TellsTransition state k next (Err e) = next ≡ (state, refusal_of e)
TellsTransition state k next (Ok (word, after)) =
    (next.1 ≡ (gained k after).0) × (word ≡ encoded (census next.0))
