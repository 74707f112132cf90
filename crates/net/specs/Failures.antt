-- How the calls of connections and listeners fail.
use Rattle.std.specs.Prelude.{◌≡◌, ◌⊎◌, Result, IfErr}
use Rattle.std.specs.IoError.{error_kind}
use Rattle.std.specs.declared.io.Error.{Error}
use Rattle.std.specs.declared.io.ErrorKind.TheVariants.{OutOfMemory}
use Rattle.rwloops.specs.declared.fault.Fault.{Fault}
use Rattle.rwloops.specs.declared.fault.Fault.TheVariants as fault
use Rattle.fd_descriptor.specs.HandleCalls.{Call, Accepts, Connects, SetsDeadline, MayTell}
use Rattle.fd_descriptor.specs.Marks.{Marks}
use Rattle.net.specs.Errors.{Tells}

-- a handle may be told this fault by this call, whatever it has seen
abbrev pub IsFaultOf : Call → Fault → Type 0
IsFaultOf call told = (before after : Marks) × MayTell call before after told

-- a call that doesn't wait may be told this fault: one of the handle's call, or that there is no memory
-- for the handle that it has for itself
abbrev pub IsPolledFault : Call → Fault → Type 0
IsPolledFault call told = IsFaultOf call told ⊎ (told ≡ fault.OutOfMemory)

-- the error tells a fault that a handle may be told by this call
abbrev pub IsErrorOf : Call → Error → Type 0
IsErrorOf call error = (told : Fault) × IsFaultOf call told × Tells told error

-- the call fails by the faults of this call of a handle alone
abbrev pub FailsAs : {T : Type 0} → Call → Result T Error → Type 0
FailsAs call result = IfErr result (IsErrorOf call)

-- the wait for a connection fails by the faults of the wait, or by those of setting its time, alone
abbrev pub FailsToConnect : {T : Type 0} → Result T Error → Type 0
FailsToConnect result =
    IfErr result (λ error. IsErrorOf Connects error ⊎ IsErrorOf SetsDeadline error)

-- an accept with a time may be told this fault: one of an accept, or of setting its time
abbrev pub IsAcceptFault : Fault → Type 0
IsAcceptFault told = IsFaultOf Accepts told ⊎ IsFaultOf SetsDeadline told

-- the wait for a client fails by those faults alone
abbrev pub FailsToAccept : {T : Type 0} → Result T Error → Type 0
FailsToAccept result =
    IfErr result (λ error. IsErrorOf Accepts error ⊎ IsErrorOf SetsDeadline error)

-- the call fails by want of memory alone
abbrev pub FailsForMemory : {T : Type 0} → Result T Error → Type 0
FailsForMemory result = IfErr result (λ error. error_kind error ≡ OutOfMemory)
