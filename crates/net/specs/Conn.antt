-- A connection and a listener, as their callers see them.
use Rattle.std.specs.Prelude.{◌≡◌, ℕ, Bool, Option, Result, is_some}
use Rattle.std.specs.Prelude.{IsErrAnd}
use Rattle.std.specs.Global.{Global}
use Rattle.std.specs.IoError.{error_kind}
use Rattle.std.specs.declared.io.Error.{Error}
use Rattle.std.specs.declared.io.ErrorKind.TheVariants.{NotConnected}
use Rattle.rwloops.specs.declared.fault.Fault.{Fault}
use Rattle.rwloops.specs.declared.fault.WriteFault.{WriteFault}
use Rattle.fd_descriptor.specs.declared.descriptor.FdHandle.{FdHandle}
use Rattle.fd_descriptor.specs.FdHandle.{control_of, marks_of, saw_closed}
use Rattle.fd_descriptor.specs.Marks.{SawTheEnd}
use Rattle.readiness.specs.declared.resources.SockRes.{SockRes}
use Rattle.readiness.specs.declared.resources.ReadHalf.{ReadHalf}
use Rattle.readiness.specs.declared.resources.WriteHalf.{WriteHalf}
use Rattle.readiness.specs.SockControl.{asks_tcp}
use Rattle.readiness.specs.declared.sock_control.SockControl.{SockControl}
use Rattle.handle_io.specs.Answers.{IsReadAnswerBy, IsWriteAnswerBy}
use Rattle.std.specs.Arc.{arc_value}
use Rattle.net.specs.declared.guard.Guard.{Guard}
use Rattle.net.specs.declared.stream.Conn.{Conn}
use Rattle.net.specs.Errors.{Tells}

-- the call failed as one of a connection that is closed
abbrev pub IsNotConnected : {T : Type 0} → Result T Error → Type 0
IsNotConnected result = IsErrAnd result (λ error. error_kind error ≡ NotConnected)

-- the call failed by an error that tells this fault
abbrev pub FailsBy : {T : Type 0} → Fault → Result T Error → Type 0
FailsBy told result = IsErrAnd result (Tells told)

-- a read's answer, by what the handle was answered, with errors that may have the system's number
abbrev pub IsReadAnswer : Result ℕ Fault → Result ℕ Error → Type 0
IsReadAnswer told result = IsReadAnswerBy Tells told result

-- a write's answer likewise, and the fault that is left for the next one to tell
abbrev pub IsWriteAnswer : Result ℕ WriteFault → Result ℕ Error → Option Fault → Type 0
IsWriteAnswer told result untold = IsWriteAnswerBy Tells told result untold

module _ {R : Type 0} where
  -- the handle by which this clone reads, writes and closes
  abbrev pub handle_of : Conn R
      → FdHandle SockRes Global (ReadHalf Global) (WriteHalf Global) SockControl
  handle_of conn = conn.handle

  -- its socket is one of TCP
  abbrev pub is_tcp_conn : Conn R → Bool
  is_tcp_conn conn = asks_tcp (control_of (handle_of conn))

  -- this clone closed the connection, or was told that somebody did
  abbrev pub is_closed : Conn R → Bool
  is_closed conn = saw_closed (handle_of conn)

  -- the fault of a write that was cut off, which the next write tells
  abbrev pub untold_of : Conn R → Option Fault
  untold_of conn = conn.untold

  -- what all clones of a connection have in common
  abbrev pub guard_of : Conn R → Guard R
  guard_of conn = arc_value conn.guard

  -- a loop has a task for the connection
  abbrev pub has_task : Conn R → Bool
  has_task conn = is_some (guard_of conn).link

  -- this clone has seen that both directions are ended, and that the socket is given back
  abbrev pub HasEnded : Conn R → Type 0
  HasEnded conn = SawTheEnd (marks_of (handle_of conn))
