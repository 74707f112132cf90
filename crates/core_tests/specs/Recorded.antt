-- What stubs keep of their calls, oldest first, as their traits tell it, newest first.
use Rattle.std.specs.Prelude.{ℕ, Bool, true, false, List, [], ◌∷◌, map, reverse, Option, Some, None}
use Rattle.std.specs.Prelude.{Result, Ok, Err}
use Rattle.base_types.specs.declared.direction.Dir.{Dir}
use Rattle.deadline_core.specs.declared.refusal.Refusal.{Refusal}
use Rattle.rwloops.specs.declared.fault.Fault.{Fault}
use Rattle.rwloops.specs.declared.fault.WriteFault.{WriteFault}
use Rattle.rwloops.specs.declared.outcome.Outcome.{Outcome}
use Rattle.rwloops.specs.declared.tries.Progress.{Progress}
use Rattle.rwloops.specs.declared.tries.Progress.TheVariants.{Whole, Part, Failed}
use Rattle.rwloops.specs.ReadTrace.{ReadTry}
use Rattle.rwloops.specs.Waits.{WaitCall, Prepared, Waited}
use Rattle.relay_core.specs.AcceptTrace.{AcceptCall, Accepted, Delivered, Paused}

-- the bytes of a try that gives one at most
abbrev pub given : Option ℕ → List ℕ
given (Some byte) = byte ∷ []
given None = []

-- tries to read: the room, the byte that was given, if one was, and the outcome
abbrev pub read_tries_of : List (ℕ × Option ℕ × Outcome) → List ReadTry
read_tries_of kept = map
    (λ done. record { room = done.0; gave = given done.1; outcome = done.2 }) (reverse kept)

-- a wait, or a prepare
abbrev pub wait_call_of : Bool → Dir → Result (Unit {0}) Refusal → WaitCall
wait_call_of true dir answer = Waited dir answer
wait_call_of false dir answer = Prepared dir answer

-- calls on waits: whether it is a wait, the direction and the answer
abbrev pub wait_calls_of : List (Bool × Dir × Result (Unit {0}) Refusal) → List WaitCall
wait_calls_of kept = map (λ done. wait_call_of done.0 done.1 done.2) (reverse kept)

-- how many of so many bytes a write took that doesn't wait
abbrev pub count_by : ℕ → Progress → ℕ
count_by len Whole = len
count_by len (Part count) = count
count_by len (Failed failed) = failed.count

-- the same of one that waits
abbrev pub count_by_answer : Result ℕ WriteFault → ℕ
count_by_answer (Ok count) = count
count_by_answer (Err failed) = failed.count

-- the delivery of what was taken, or an answer of an accept
abbrev pub accept_call_of : {T : Type 0} → Bool → Result T Fault → AcceptCall T
accept_call_of true (Ok taken) = Delivered taken
accept_call_of true (Err fault) = Accepted (Err fault)
accept_call_of false answer = Accepted answer

-- calls of an accept: whether it is a delivery, and the answer, or what was delivered
abbrev pub accept_calls_of : {T : Type 0} → List (Bool × Result T Fault) → List (AcceptCall T)
accept_calls_of kept = map (λ done. accept_call_of done.0 done.1) (reverse kept)

-- what accepts took, newest first
abbrev pub accepted_in : {T : Type 0} → List (AcceptCall T) → List T
accepted_in [] = []
accepted_in (Accepted (Ok taken) ∷ earlier) = taken ∷ accepted_in earlier
accepted_in (Accepted (Err fault) ∷ earlier) = accepted_in earlier
accepted_in (Delivered taken ∷ earlier) = accepted_in earlier
accepted_in (Paused ms ∷ earlier) = accepted_in earlier

-- what was delivered, newest first
abbrev pub delivered_in : {T : Type 0} → List (AcceptCall T) → List T
delivered_in [] = []
delivered_in (Delivered taken ∷ earlier) = taken ∷ delivered_in earlier
delivered_in (Accepted answer ∷ earlier) = delivered_in earlier
delivered_in (Paused ms ∷ earlier) = delivered_in earlier
