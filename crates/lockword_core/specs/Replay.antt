-- A list of events, one after the other.
use Rattle.std.specs.Prelude.{List, [], ◌∷◌}
use Rattle.lockword_core.specs.declared.stake.Event.{Event}
use Rattle.lockword_core.specs.declared.stake.Answer.{Answer}
use Rattle.lockword_core.specs.LockState.{LockState}
use Rattle.lockword_core.specs.Transition.{transition}

-- the state after the events
abbrev pub state_after : LockState → List Event → LockState
state_after state [] = state
state_after state (e ∷ events) = state_after (transition state e.holder e.op).0 events

-- the answers to the events
abbrev pub answers_of : LockState → List Event → List Answer
answers_of state [] = []
answers_of state (e ∷ events) =
    (transition state e.holder e.op).1 ∷ answers_of (transition state e.holder e.op).0 events
