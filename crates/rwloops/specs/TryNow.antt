-- What a call that doesn't wait tried and answered. Lists are newest first.
use Rattle.std.specs.Prelude.{ℕ, ◌+◌, ◌-◌, ◌*◌, ◌<◌, ◌≤◌, Bool, true, false, List, [], ◌∷◌, length, map}
use Rattle.std.specs.Prelude.{Option, Some, None, Result, Ok, Err, IsTrue}
use Rattle.std.specs.List.{list_all}
use Rattle.base_types.specs.declared.direction.Dir.{Dir}
use Rattle.base_types.specs.declared.direction.Dir.TheVariants.{Read, Write}
use Rattle.deadline_core.specs.declared.refusal.Refusal.{Refusal}
use Rattle.rwloops.specs.declared.limits.TheConstants.{MAX_RETRIES}
use Rattle.rwloops.specs.declared.fault.Fault.{Fault}
use Rattle.rwloops.specs.declared.outcome.AcceptOutcome.{AcceptOutcome}
use Rattle.rwloops.specs.declared.read_loop.ReadLoop.{ReadLoop}
use Rattle.rwloops.specs.declared.write_loop.WriteLoop.{WriteLoop}
use Rattle.rwloops.specs.declared.accept_loop.AcceptLoop.{AcceptLoop}
use Rattle.rwloops.specs.declared.tries.Progress.{Progress}
use Rattle.rwloops.specs.declared.tries.Progress.TheVariants as progress
use Rattle.rwloops.specs.Waits.{WaitCall, Prepared, Waited, fault_of, Tells}
use Rattle.rwloops.specs.Turns.{Event, Tried}
use Rattle.rwloops.specs.ReadTrace.{ReadTry, ReadTrace}
use Rattle.rwloops.specs.WriteTrace.{WriteTry, WriteTrace}
use Rattle.rwloops.specs.AcceptTrace.{AcceptTrace}

-- the call on waits is a prepare that was granted
abbrev pub is_granted_prepare : WaitCall → Bool
is_granted_prepare (Prepared dir (Ok u)) = true
is_granted_prepare _ = false

-- the trace is that of a call that was let begin and asked for no wait
pub record AsksNoWait (Trace : List WaitCall → Type 0) : Type 0 where
  pub calls : List WaitCall
  pub begun : IsTrue (list_all is_granted_prepare calls)
  pub trace : Trace calls

-- the calls on waits of a call that was let begin, and was refused its first wait
abbrev pub first_wait_refused : Dir → Refusal → List WaitCall
first_wait_refused dir refusal = Waited dir (Err refusal) ∷ (Prepared dir (Ok tt) ∷ [])

-- what a read that doesn't wait tried, answered and left in the buffer: as a read that asks for no
-- wait; where it answers `None`, as a read that is refused its first wait, whatever the refusal
abbrev pub ReadNow : List ℕ → List ReadTry → Option (Result ℕ Fault) → Type 0
ReadNow buffer tries (Some answer) = AsksNoWait (λ calls. ReadTrace buffer tries calls answer)
ReadNow buffer tries None = (refusal : Refusal) →
    ReadTrace buffer tries (first_wait_refused Read refusal) (Err (fault_of refusal))

-- the same of an accept
abbrev pub AcceptNow : {T : Type 0} → List (AcceptOutcome T) → Option (Result T Fault) → Type 0
AcceptNow tries (Some answer) = AsksNoWait (λ calls. AcceptTrace tries calls answer)
AcceptNow tries None = (refusal : Refusal) →
    AcceptTrace tries (first_wait_refused Read refusal) (Err (fault_of refusal))

-- the same of a write: a part is what a write has written that is refused its first wait
abbrev pub WriteNow : List ℕ → List WriteTry → Progress → Type 0
WriteNow bytes tries progress.Whole =
    AsksNoWait (λ calls. WriteTrace bytes tries calls (Ok (length bytes)))
WriteNow bytes tries (progress.Part count) = (refusal : Refusal) →
    WriteTrace bytes tries (first_wait_refused Write refusal)
    (Err (record { fault = fault_of refusal; count = count }))
WriteNow bytes tries (progress.Failed failed) =
    AsksNoWait (λ calls. WriteTrace bytes tries calls (Err failed))

-- some tries make up the trace, and a half that tells what came before tells them on top
pub record IsTried {A : Type 0} (Trace : List A → Type 0)
    (half_before half_after : List A → Type 0) : Type 0 where
  pub tries : List A
  pub trace : Trace tries
  pub half_tells : Tells half_before half_after tries

-- these tries alone led to what is now, and make up the trace; only private functions cite it
pub record IsTriedInTurn {A : Type 0} (Went : List (Event A) → Type 0)
    (Trace : List A → Type 0) : Type 0 where
  pub tries : List A
  pub went : Went (map Tried tries)
  pub trace : Trace tries

-- how many more tries can come at once, each after one that was interrupted
abbrev pub read_tries_left : ReadLoop → ℕ
read_tries_left loop = MAX_RETRIES - loop.retries.in_a_row

-- the same of an accept, after one that was interrupted or aborted
abbrev pub accept_tries_left : {T : Type 0} → AcceptLoop T → ℕ
accept_tries_left loop = MAX_RETRIES - loop.retries.in_a_row

-- at most how many more tries can come at once: for each byte that is left one that takes it, and
-- before each a whole row of interrupted ones
abbrev pub write_tries_left : WriteLoop → ℕ
write_tries_left loop = (loop.len - loop.count) * (MAX_RETRIES + 1) +
    (MAX_RETRIES - loop.retries.in_a_row)

-- a part is less than the whole, and a fault counts no more than the whole
abbrev pub IsPartOf : ℕ → Progress → Type 0
IsPartOf len progress.Whole = Unit {0}
IsPartOf len (progress.Part count) = count < len
IsPartOf len (progress.Failed failed) = failed.count ≤ len
