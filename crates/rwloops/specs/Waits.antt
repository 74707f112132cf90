-- What is asked of waits, and what halves and waits tell. Lists are newest first.
use Rattle.std.specs.Prelude.{Bool, List, [], ◌∷◌, ◌++◌, Result, Ok, if◌then◌else◌}
use Rattle.base_types.specs.declared.direction.Dir.{Dir}
use Rattle.deadline_core.specs.declared.refusal.Refusal.{Refusal}
use Rattle.deadline_core.specs.declared.refusal.Refusal.TheVariants.{Closed, DeadlineExceeded}
use Rattle.rwloops.specs.declared.fault.Fault.{Fault}
use Rattle.rwloops.specs.declared.fault.Fault.TheVariants as fault

-- a call on waits, with its answer
pub data WaitCall : Type 0 where
  Prepared : (dir : Dir) (answer : Result (Unit {0}) Refusal) → WaitCall
  Waited : (dir : Dir) (answer : Result (Unit {0}) Refusal) → WaitCall

-- the fault of the refusal's name
abbrev pub fault_of : Refusal → Fault
fault_of Closed = fault.Closed
fault_of DeadlineExceeded = fault.DeadlineExceeded

-- the calls on waits where each was answered Ok: one to prepare, and one to wait for each outcome
-- that blocks
abbrev pub granted_calls : {A : Type 0} → Dir → (A → Bool) → List A → List WaitCall
granted_calls dir blocks [] = Prepared dir (Ok tt) ∷ []
granted_calls dir blocks (outcome ∷ earlier) =
    if blocks outcome then Waited dir (Ok tt) ∷
    granted_calls dir blocks earlier else granted_calls dir blocks earlier

-- who told a list before tells it after, with what was done since on top
abbrev pub Tells : {A : Type 0} → (List A → Type 0) → (List A → Type 0) → List A → Type 0
Tells {A = A} before after done = (earlier : List A) → before earlier → after (done ++ earlier)
