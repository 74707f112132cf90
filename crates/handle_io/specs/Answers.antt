-- What a call of a reader or a writer answers, by what the handle's own call was answered.
use Rattle.std.specs.Prelude.{◌≡◌, ℕ, ◌<◌, ◌≤◌, true, Option, Some, None, Result, Ok, Err}
use Rattle.std.specs.Prelude.{IfOk, IfErr, IsErrAnd}
use Rattle.std.specs.IoError.{error_kind}
use Rattle.std.specs.declared.io.Error.{Error}
use Rattle.std.specs.declared.io.ErrorKind.TheVariants.{NotConnected}
use Rattle.rwloops.specs.declared.fault.Fault.{Fault}
use Rattle.rwloops.specs.declared.fault.Fault.TheVariants as fault
use Rattle.rwloops.specs.declared.fault.WriteFault.{WriteFault}
use Rattle.fd_descriptor.specs.declared.descriptor.FdHandle.{FdHandle}
use Rattle.fd_descriptor.specs.FdHandle.{KeepsHandle, marks_of, saw_closed, saw_draining}
use Rattle.fd_descriptor.specs.FdHandle.{closes_of, drains_of}
use Rattle.fd_descriptor.specs.HandleCalls.{Reads, Writes, MayTell, IsLockFault, IsRefusedWrite}
use Rattle.fd_descriptor.specs.Entry.{IsEntry}
use Rattle.handle_io.specs.Kinds.{kind_told}

-- what a handle's read promises of its answer, for a buffer with so much room
pub record IsReadOf {X A R W C : Type 0} (before after : FdHandle X A R W C) (room : ℕ)
    (told : Result ℕ Fault) : Type 0 where
  pub entry : IsEntry Reads before after told
  pub within : IfOk told (λ count. count ≤ room)
  pub some : 0 < room → IfOk told (λ count. 0 < count)
  pub empty : room ≡ 0 → IfErr told (IsLockFault (marks_of before) (marks_of after))

-- what a handle's write promises of its answer, for so many bytes
pub record IsWriteOf {X A R W C : Type 0} (before after : FdHandle X A R W C) (offered : ℕ)
    (told : Result ℕ WriteFault) : Type 0 where
  pub keeps : KeepsHandle before after
  pub no_close : closes_of after ≡ closes_of before
  pub no_drain : drains_of after ≡ drains_of before
  pub allowed : IfErr told (λ failed. MayTell Writes (marks_of before) (marks_of after) failed.fault)
  pub closed : saw_closed before ≡ true → told ≡ Err (record { fault = fault.Closed; count = 0 })
  pub draining : saw_draining before ≡ true → IsRefusedWrite told
  pub whole : IfOk told (λ count. count ≡ offered)
  pub part : IfErr told (λ failed. failed.count ≤ offered)

-- an error has the kind of this fault
abbrev pub HasItsKind : Fault → Error → Type 0
HasItsKind told e = error_kind e ≡ kind_told told

-- the call failed by an error that tells this fault
abbrev pub TellsFault : Fault → Result ℕ Error → Type 0
TellsFault told result = IsErrAnd result (HasItsKind told)

-- the call failed as one of which nobody is at the other end, since this end is closed or draining
abbrev pub IsNotConnected : Result ℕ Error → Type 0
IsNotConnected result = IsErrAnd result (λ e. error_kind e ≡ NotConnected)

-- a read's answer, where errors tell faults so: the handle's count, 0 at the stream's end, and each
-- other fault
abbrev pub IsReadAnswerBy : (Fault → Error → Type 0) → Result ℕ Fault → Result ℕ Error → Type 0
IsReadAnswerBy Tells (Ok count) result = result ≡ Ok count
IsReadAnswerBy Tells (Err fault.EndOfFile) result = result ≡ Ok 0
IsReadAnswerBy Tells (Err told) result = IsErrAnd result (Tells told)

-- the same, each fault by its kind
abbrev pub IsReadAnswer : Result ℕ Fault → Result ℕ Error → Type 0
IsReadAnswer told result = IsReadAnswerBy HasItsKind told result

-- a write's answer, where errors tell faults so, and the fault that is left for the next one to tell:
-- the handle's count, a fault where no byte was taken, and else the bytes that were taken, with the
-- fault left
abbrev pub IsWriteAnswerBy : (Fault → Error → Type 0) → Result ℕ WriteFault → Result ℕ Error
    → Option Fault → Type 0
IsWriteAnswerBy Tells (Ok count) result untold = (result ≡ Ok count) × (untold ≡ None)
IsWriteAnswerBy Tells (Err failed) result untold =
    (failed.count ≡ 0 → IsErrAnd result (Tells failed.fault) × (untold ≡ None))
    × (0 < failed.count → (result ≡ Ok failed.count) × (untold ≡ Some failed.fault))

-- the same, each fault by its kind
abbrev pub IsWriteAnswer : Result ℕ WriteFault → Result ℕ Error → Option Fault → Type 0
IsWriteAnswer told result untold = IsWriteAnswerBy HasItsKind told result untold
