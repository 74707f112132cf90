-- What an accept task does in one turn, and what its turns make together. Lists are newest first.
--
-- The figure 1024 is written out here, and not taken from the code's constant, so that another
-- value is refused.
use Rattle.std.specs.Prelude.{◌≡◌, ◌≤◌, ◌+◌, ℕ, List, [], ◌∷◌, length, Result, Ok, Err}
use Rattle.rwloops.specs.Waits.{Tells}
use Rattle.rwloops.specs.declared.fault.Fault.{Fault}
use Rattle.rwloops.specs.declared.fault.Fault.TheVariants.{Closed as ListenerClosed}
use Rattle.rwloops.specs.declared.fault.Fault.TheVariants.{Draining as ListenerDraining}
use Rattle.relay_core.specs.declared.accept_ended.AcceptEnded.{AcceptEnded}
use Rattle.relay_core.specs.declared.accept_ended.AcceptEnded.TheVariants.{Closed, Draining}
use Rattle.relay_core.specs.declared.accept_ended.AcceptEnded.TheVariants.{TooManyFaults}
use Rattle.relay_core.specs.declared.accept_task.AcceptStep.{AcceptStep}
use Rattle.relay_core.specs.declared.accept_task.AcceptStep.TheVariants.{Pauses, Ended as Over}
use Rattle.relay_core.specs.AcceptTrace.{AcceptCall, Accepted, pause_after, MayPass, GoOn}
use Rattle.relay_core.specs.AcceptTrace.{turn_calls}
use Rattle.relay_core.specs.AcceptTrace.{faults_in_a_row}

-- the answers of accepts that gave these
abbrev pub answers_of : {T : Type 0} → List T → List (Result T Fault)
answers_of [] = []
answers_of (taken ∷ earlier) = Ok taken ∷ answers_of earlier

-- how many faults are in a row, where there were so many before these were accepted
abbrev pub row_after : {T : Type 0} → ℕ → List T → ℕ
row_after faults [] = faults
row_after faults (taken ∷ earlier) = 0

-- the fault that ends an accept task so, after so many others in a row
pub data LastFault (row : ℕ) : Fault → AcceptEnded → Type 0 where
  -- the listener was closed
  OfClosed : LastFault row ListenerClosed Closed
  -- the listener was drained
  OfDrained : LastFault row ListenerDraining Draining
  -- another fault, after 1,024 in a row
  OneTooMany : (fault : Fault) → MayPass fault → row ≡ 1024
      → LastFault row fault (TooManyFaults fault)

-- accepts that each gave something, which was directly delivered: at least so many, and at most so
-- many; what its gate tells of them, and how many faults are in a row before and after them
pub record IsTaking {T : Type 0} (before now : List (AcceptCall T) → Type 0)
    (old new least most : ℕ) : Type 0 where
  pub taken : List T
  pub many : least ≤ length taken
  pub few : length taken ≤ most
  pub row : new ≡ row_after old taken
  pub told : Tells before now (turn_calls (answers_of taken))

-- such accepts, and then a fault that may pass, after which there is to be a pause of so long
pub record IsPausing {T : Type 0} (before now : List (AcceptCall T) → Type 0)
    (old new most ms : ℕ) : Type 0 where
  pub taken : List T
  pub fault : Fault
  pub may_pass : MayPass fault
  pub few : length taken ≤ most
  pub row : new ≡ row_after old taken + 1
  pub borne : new ≤ 1024
  pub pause : ms ≡ pause_after new
  pub told : Tells before now (Accepted (Err fault) ∷ turn_calls (answers_of taken))

-- such accepts, and then the fault that ended the task so
pub record IsEnding {T : Type 0} (before after : List (AcceptCall T) → Type 0)
    (old most : ℕ) (ended : AcceptEnded) : Type 0 where
  pub taken : List T
  pub last : Fault
  pub few : length taken ≤ most
  pub ends : LastFault (row_after old taken) last ended
  pub told : Tells before after (Accepted (Err last) ∷ turn_calls (answers_of taken))

-- a run of accepts so far, with its pauses: so many faults came in a row at last
pub record IsAcceptingSoFar {T : Type 0} (before now : List (AcceptCall T) → Type 0)
    (faults : ℕ) : Type 0 where
  pub answers : List (Result T Fault)
  pub go_on : GoOn answers
  pub row : faults ≡ faults_in_a_row answers
  pub told : Tells before now (turn_calls answers)

-- what holds of the pause where a step asks for one
abbrev pub IfPauses : AcceptStep → (ℕ → Type 0) → Type 0
IfPauses (Pauses ms) P = P ms
IfPauses _ P = Unit {0}

-- what holds of the end where a step ended a task
abbrev pub IfAcceptEnded : AcceptStep → (AcceptEnded → Type 0) → Type 0
IfAcceptEnded (Over ended) P = P ended
IfAcceptEnded _ P = Unit {0}

-- a fault that may pass was borne, after so many in a row: one more is in a row, and a pause of so
-- long is asked for
pub record IsBorne (fault : Fault) (old new ms : ℕ) : Type 0 where
  pub may_pass : MayPass fault
  pub row : new ≡ old + 1
  pub borne : new ≤ 1024
  pub pause : ms ≡ pause_after new

-- a step asks for a pause, or ended the task
abbrev pub IsStopOfAccepts : AcceptStep → Type 0
IsStopOfAccepts (Pauses ms) = Unit {0}
IsStopOfAccepts (Over ended) = Unit {0}
IsStopOfAccepts _ = ⊥
