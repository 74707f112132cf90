-- What callers are told of the system's errors, by the kinds of `io::Error`.
use Rattle.std.specs.Prelude.{◌≡◌, ◌⊎◌, ℕ, Result, Ok, Err}
use Rattle.std.specs.IoError.{error_kind}
use Rattle.std.specs.declared.io.Error.{Error}
use Rattle.std.specs.declared.io.ErrorKind.{ErrorKind}
use Rattle.std.specs.declared.io.ErrorKind.TheVariants.{ConnectionReset, ConnectionAborted}
use Rattle.std.specs.declared.io.ErrorKind.TheVariants.{ConnectionRefused, NotConnected}
use Rattle.std.specs.declared.io.ErrorKind.TheVariants.{BrokenPipe as PipeIsBroken}
use Rattle.std.specs.declared.io.ErrorKind.TheVariants.{WouldBlock as WaitIsNeeded}
use Rattle.std.specs.declared.io.ErrorKind.TheVariants.{Interrupted as SignalCame}
use Rattle.rwloops.specs.declared.outcome.DevKind.{DevKind}
use Rattle.rwloops.specs.declared.outcome.DevKind.TheVariants.{Reset, Aborted as WasAborted}
use Rattle.rwloops.specs.declared.outcome.DevKind.TheVariants.{BrokenPipe, Refused, Other}
use Rattle.rwloops.specs.declared.outcome.Outcome.{Outcome}
use Rattle.rwloops.specs.declared.outcome.Outcome.TheVariants.{Count, Interrupted, Aborted}
use Rattle.rwloops.specs.declared.outcome.Outcome.TheVariants.{WouldBlock, Broken}
use Rattle.rwloops.specs.declared.outcome.AcceptOutcome.{AcceptOutcome}
use Rattle.rwloops.specs.declared.outcome.AcceptOutcome.TheVariants as accept
use Rattle.readiness.specs.declared.sock.Sock.{Sock}

-- the kinds that callers tell apart by name, and one for all others
abbrev pub kind_told : ErrorKind → DevKind
kind_told ConnectionReset = Reset
kind_told ConnectionAborted = WasAborted
kind_told PipeIsBroken = BrokenPipe
kind_told ConnectionRefused = Refused
kind_told _ = Other

-- before there is a connection: nobody listens, or any other error
abbrev pub refused_or_other : DevKind → DevKind
refused_or_other Refused = Refused
refused_or_other _ = Other

-- one of the kinds that come before there is a connection
abbrev pub IsConnectKind : DevKind → Type 0
IsConnectKind kind = (kind ≡ Refused) ⊎ (kind ≡ Other)

-- an error of a try to read or to write: a wait, two inconclusive kinds, or a fault
abbrev pub error_told : ErrorKind → Outcome
error_told WaitIsNeeded = WouldBlock
error_told NotConnected = WouldBlock
error_told SignalCame = Interrupted
error_told ConnectionAborted = Aborted
error_told kind = Broken (kind_told kind)

-- what a try to read or to write gave
abbrev pub outcome_told : Result ℕ Error → Outcome
outcome_told (Ok count) = Count count
outcome_told (Err error) = error_told (error_kind error)

-- an error of a try to accept, as one of a read
abbrev pub accept_error_told : ErrorKind → AcceptOutcome Sock
accept_error_told WaitIsNeeded = accept.WouldBlock
accept_error_told NotConnected = accept.WouldBlock
accept_error_told SignalCame = accept.Interrupted
accept_error_told ConnectionAborted = accept.Aborted
accept_error_told kind = accept.Broken (kind_told kind)

-- what a try to accept gave
abbrev pub accept_told : Result Sock Error → AcceptOutcome Sock
accept_told (Ok sock) = accept.Took sock
accept_told (Err error) = accept_error_told (error_kind error)
