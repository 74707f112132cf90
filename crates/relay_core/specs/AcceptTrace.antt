-- What a run of accepts does through its gate. Lists are newest first.
--
-- The figures 5, 1000 and 1024 are written out here, and not taken from the code's constants, so
-- that a constant of another value is refused.
use Rattle.std.specs.Prelude.{◌≡◌, ◌≢◌, ◌≤◌, ◌+◌, ◌*◌, min, ℕ, zero, suc, List, [], ◌∷◌, Result, Ok}
use Rattle.std.specs.Prelude.{Err}
use Rattle.rwloops.specs.Waits.{Tells}
use Rattle.rwloops.specs.declared.fault.Fault.{Fault}
use Rattle.rwloops.specs.declared.fault.Fault.TheVariants.{Closed as ListenerClosed}
use Rattle.rwloops.specs.declared.fault.Fault.TheVariants.{Draining as ListenerDraining}
use Rattle.relay_core.specs.declared.accept_ended.AcceptEnded.{AcceptEnded}
use Rattle.relay_core.specs.declared.accept_ended.AcceptEnded.TheVariants.{Closed, Draining}
use Rattle.relay_core.specs.declared.accept_ended.AcceptEnded.TheVariants.{TooManyFaults}

-- a call of a gate, with its answer
pub data AcceptCall (T : Type 0) : Type 0 where
  Accepted : (answer : Result T Fault) → AcceptCall T
  Delivered : (taken : T) → AcceptCall T
  Paused : (ms : ℕ) → AcceptCall T

-- how many of the newest answers are faults
abbrev pub faults_in_a_row : {T : Type 0} → List (Result T Fault) → ℕ
faults_in_a_row [] = 0
faults_in_a_row (Ok taken ∷ earlier) = 0
faults_in_a_row (Err fault ∷ earlier) = faults_in_a_row earlier + 1

-- the pause after so many faults in a row: 5 ms after the first, then twice the one before, at most
-- 1 s
abbrev pub pause_after : ℕ → ℕ
pause_after zero = 0
pause_after (suc zero) = 5
pause_after (suc (suc faults)) = min (2 * pause_after (suc faults)) 1000

-- a fault of a listener that is neither closed nor drained, so that a later accept may succeed
abbrev pub MayPass : Fault → Type 0
MayPass fault = (fault ≢ ListenerClosed) × (fault ≢ ListenerDraining)

-- an answer after which a run of accepts goes on: no fault but one that may pass, and no more than
-- 1,024 in a row
abbrev pub GoesOn : {T : Type 0} → Result T Fault → List (Result T Fault) → Type 0
GoesOn (Ok taken) earlier = Unit {0}
GoesOn (Err fault) earlier =
    MayPass fault × (faults_in_a_row (Err fault ∷ earlier) ≤ 1024)

-- answers after each of which it goes on
abbrev pub GoOn : {T : Type 0} → List (Result T Fault) → Type 0
GoOn [] = Unit {0}
GoOn (answer ∷ earlier) = GoesOn answer earlier × GoOn earlier

-- what follows an answer: what was accepted is delivered, and after a fault there is a pause
abbrev pub follow_up : {T : Type 0} → Result T Fault → List (Result T Fault) → AcceptCall T
follow_up (Ok taken) earlier = Delivered taken
follow_up (Err fault) earlier = Paused (pause_after (faults_in_a_row (Err fault ∷ earlier)))

-- the calls of a run of accepts that was given these answers
abbrev pub turn_calls : {T : Type 0} → List (Result T Fault) → List (AcceptCall T)
turn_calls [] = []
turn_calls (answer ∷ earlier) = follow_up answer earlier ∷ Accepted answer ∷ turn_calls earlier

-- the last answer of a run of accepts that ended so, after those before
pub data LastAnswer {T : Type 0} (earlier : List (Result T Fault)) : Fault → AcceptEnded
    → Type 0 where
  -- the listener was closed
  AtClosed : LastAnswer earlier ListenerClosed Closed
  -- the listener was drained
  AtDraining : LastAnswer earlier ListenerDraining Draining
  -- another fault, after 1,024 in a row
  AtFault : (fault : Fault) → MayPass fault → faults_in_a_row earlier ≡ 1024
      → LastAnswer earlier fault (TooManyFaults fault)

-- the calls of a run of accepts from its beginning to its end
pub record AcceptTrace {T : Type 0} (calls : List (AcceptCall T))
    (ended : AcceptEnded) : Type 0 where
  pub answers : List (Result T Fault)
  pub last : Fault
  pub go_on : GoOn answers
  pub ends : LastAnswer answers last ended
  pub in_order : calls ≡ Accepted (Err last) ∷ turn_calls answers

-- a run of accepts, as its gate tells it
pub record IsAccepting {T : Type 0} (before after : List (AcceptCall T) → Type 0)
    (ended : AcceptEnded) : Type 0 where
  pub calls : List (AcceptCall T)
  pub trace : AcceptTrace calls ended
  pub told : Tells before after calls
