-- The calls of a handle, and which faults each may tell.
use Rattle.std.specs.Prelude.{◌≡◌, ◌⊎◌, ◌+◌, ℕ, true, false, Result, Ok, Err, IsErrAnd}
use Rattle.fdmutex.specs.declared.answers.Refusal.{Refusal}
use Rattle.fdmutex.specs.declared.answers.Refusal.TheVariants as refusal
use Rattle.rwloops.specs.declared.fault.Fault.{Fault}
use Rattle.rwloops.specs.declared.fault.Fault.TheVariants as fault
use Rattle.rwloops.specs.declared.outcome.DevKind.{DevKind}
use Rattle.rwloops.specs.declared.fault.WriteFault.{WriteFault}
use Rattle.rwloops.specs.declared.tries.Progress.{Progress}
use Rattle.rwloops.specs.declared.tries.Progress.TheVariants as progress
use Rattle.fd_descriptor.specs.Marks.{Marks, SawTheEnd, NowDraining, SameButDraining}

-- what a handle is asked to do
pub data Call : Type 0 where
  Reads : Call
  TimedReads : Call
  Accepts : Call
  Writes : Call
  TimedWrites : Call
  Connects : Call
  Shuts : Call
  SetsDeadline : Call
  Closes : Call
  Drains : Call
  Begins : Call
  Controls : Call

-- the fault that a refusal of the lock word is to the caller of a handle
abbrev pub lock_fault : Refusal → Fault
lock_fault refusal.Closed = fault.Closed
lock_fault (refusal.TooMany w) = fault.TooMany
lock_fault refusal.Draining = fault.Draining

-- The faults of the lock word that a call may tell which takes a reference or a lock: it was seen
-- closed; or no reference, or no place to wait for a lock, is left, and nothing was done on a
-- descriptor seen neither closed nor draining; or it was seen draining, and nothing was done on a
-- descriptor not seen closed.
abbrev pub IsLockFault : Marks → Marks → Fault → Type 0
IsLockFault before after fault.Closed = after.closed ≡ true
IsLockFault before after fault.TooMany =
    (after ≡ before) × (before.closed ≡ false) × (before.draining ≡ false)
IsLockFault before after fault.Draining = NowDraining before after × (before.closed ≡ false)
IsLockFault before after _ = ⊥

-- The faults of the lock word that each call may tell. No drain refuses a close, which at the limit
-- may see that the descriptor is draining; and a drain meets no limit.
abbrev pub IsWordFault : Call → Marks → Marks → Fault → Type 0
IsWordFault Closes before after fault.Draining = ⊥
IsWordFault Closes before after fault.TooMany =
    SameButDraining before after × (before.closed ≡ false)
IsWordFault Drains before after fault.TooMany = ⊥
IsWordFault call before after told = IsLockFault before after told

-- The table of the other faults that each call may tell; what has no row is never told. `Closed`
-- stands where a poll state decides, which is closing as soon as a closer comes, whatever the
-- handle has seen.
abbrev pub IsOwnFault : Call → Fault → Type 0
IsOwnFault Reads fault.Closed = Unit {0}
IsOwnFault Reads fault.DeadlineExceeded = Unit {0}
IsOwnFault Reads fault.EndOfFile = Unit {0}
IsOwnFault Reads (fault.Device kind) = Unit {0}
IsOwnFault Reads fault.TooManyRetries = Unit {0}
IsOwnFault TimedReads fault.Closed = Unit {0}
IsOwnFault TimedReads fault.DeadlineExceeded = Unit {0}
IsOwnFault TimedReads fault.EndOfFile = Unit {0}
IsOwnFault TimedReads (fault.Device kind) = Unit {0}
IsOwnFault TimedReads fault.TooManyRetries = Unit {0}
IsOwnFault TimedReads fault.OutOfMemory = Unit {0}
IsOwnFault Accepts fault.Closed = Unit {0}
IsOwnFault Accepts fault.DeadlineExceeded = Unit {0}
IsOwnFault Accepts (fault.Device kind) = Unit {0}
IsOwnFault Accepts fault.TooManyRetries = Unit {0}
IsOwnFault Writes fault.Closed = Unit {0}
IsOwnFault Writes fault.DeadlineExceeded = Unit {0}
IsOwnFault Writes fault.UnexpectedEof = Unit {0}
IsOwnFault Writes (fault.Device kind) = Unit {0}
IsOwnFault Writes fault.TooManyRetries = Unit {0}
IsOwnFault TimedWrites fault.Closed = Unit {0}
IsOwnFault TimedWrites fault.DeadlineExceeded = Unit {0}
IsOwnFault TimedWrites fault.UnexpectedEof = Unit {0}
IsOwnFault TimedWrites (fault.Device kind) = Unit {0}
IsOwnFault TimedWrites fault.TooManyRetries = Unit {0}
IsOwnFault TimedWrites fault.OutOfMemory = Unit {0}
IsOwnFault Connects fault.Closed = Unit {0}
IsOwnFault Connects fault.DeadlineExceeded = Unit {0}
IsOwnFault Connects (fault.Device kind) = Unit {0}
IsOwnFault Shuts (fault.Device kind) = Unit {0}
IsOwnFault SetsDeadline fault.Closed = Unit {0}
IsOwnFault SetsDeadline fault.OutOfMemory = Unit {0}
IsOwnFault Closes (fault.Device kind) = Unit {0}
IsOwnFault _ _ = ⊥

-- a call may tell this fault
abbrev pub MayTell : Call → Marks → Marks → Fault → Type 0
MayTell call before after told = IsWordFault call before after told ⊎ IsOwnFault call told

-- the fault says that nobody comes in any more: the descriptor is closed, or draining
abbrev pub IsShutOut : Fault → Type 0
IsShutOut fault.Closed = Unit {0}
IsShutOut fault.Draining = Unit {0}
IsShutOut _ = ⊥

-- the call was refused by a descriptor that is closed or draining
abbrev pub IsRefusedEntry : {T : Type 0} → Result T Fault → Type 0
IsRefusedEntry result = IsErrAnd result IsShutOut

-- the same of a write, which then took no byte
abbrev pub IsRefusedWrite : Result ℕ WriteFault → Type 0
IsRefusedWrite result = IsErrAnd result (λ failed. IsShutOut failed.fault × (failed.count ≡ 0))

-- a drain that is Ok, or refused as `Draining`, has seen that the descriptor is draining
abbrev pub HasDrained : Result (Unit {0}) Fault → Marks → Type 0
HasDrained (Ok u) after = after.draining ≡ true
HasDrained (Err fault.Draining) after = after.draining ≡ true
HasDrained _ after = Unit {0}

-- a drain that is Ok set the drain flag itself, once; one that is refused set none
abbrev pub TellsWhoDrained : Result (Unit {0}) Fault → ℕ → ℕ → Type 0
TellsWhoDrained (Ok u) before after = after ≡ before + 1
TellsWhoDrained (Err told) before after = after ≡ before

-- a close that is Ok, or tells the fault of destroying the halves, has seen the end
abbrev pub HasEnded : Result (Unit {0}) Fault → Marks → Type 0
HasEnded (Ok u) after = SawTheEnd after
HasEnded (Err (fault.Device kind)) after = SawTheEnd after
HasEnded _ after = Unit {0}

-- a close that is Ok, or tells the fault of destroying the halves, set the flag itself, once; one
-- that is refused set none
abbrev pub TellsWhoClosed : Result (Unit {0}) Fault → ℕ → ℕ → Type 0
TellsWhoClosed (Ok u) before after = after ≡ before + 1
TellsWhoClosed (Err (fault.Device kind)) before after = after ≡ before + 1
TellsWhoClosed _ before after = after ≡ before

-- a close that tells the fault of destroying the halves destroyed them itself; one that is refused
-- destroyed none
abbrev pub TellsOwnDestroy : Result (Unit {0}) Fault → ℕ → ℕ → Type 0
TellsOwnDestroy (Ok u) before after = Unit {0}
TellsOwnDestroy (Err (fault.Device kind)) before after = after ≡ before + 1
TellsOwnDestroy _ before after = after ≡ before

-- this holds where a close got as far as to send out the calls that wait: where it is Ok, or tells the
-- fault of destroying the halves
abbrev pub WhereEvicted : Result (Unit {0}) Fault → Type 0 → Type 0
WhereEvicted (Ok u) Holds = Holds
WhereEvicted (Err (fault.Device kind)) Holds = Holds
WhereEvicted _ Holds = Unit {0}

-- where a write that doesn't wait failed, this is so of its fault
abbrev pub IfFailed : Progress → (WriteFault → Type 0) → Type 0
IfFailed (progress.Failed failed) Holds = Holds failed
IfFailed _ Holds = Unit {0}

-- a shut was asked of the half, of which this is so by its answer: what the caller is told is that
-- answer
abbrev pub IsShut : (Result (Unit {0}) DevKind → Type 0) → Result (Unit {0}) Fault → Type 0
IsShut Told (Ok u) = Told (Ok tt)
IsShut Told (Err (fault.Device kind)) = Told (Err kind)
IsShut Told (Err _) = ⊥
