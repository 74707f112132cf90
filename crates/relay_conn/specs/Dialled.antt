-- A connection to a target that was begun, and why one couldn't be.
use Rattle.std.specs.Prelude.{◌≡◌, ◌⊎◌, pos, Some}
use Rattle.std.specs.IoError.{raw_os_error}
use Rattle.std.specs.declared.io.Error.{Error}
use Rattle.std.specs.declared.io.ErrorKind.{ErrorKind}
use Rattle.std.specs.declared.io.ErrorKind.TheVariants.{ConnectionRefused, TimedOut}
use Rattle.readiness.specs.declared.sock.Sock.{Sock}
use Rattle.relay_admin.specs.declared.rules.addr.Addr.{Addr}
use Rattle.relay_log.specs.declared.ended.Cause.{Cause}
use Rattle.relay_log.specs.declared.ended.Cause.TheVariants as cause
use Rattle.relay_conn.specs.declared.dialled.Dialled.{Dialled}

-- the address to which a connection was begun
abbrev pub dialled_to : Dialled → Addr
dialled_to dialled = dialled.target

-- the socket of such a connection
abbrev pub socket_dialled : Dialled → Sock
socket_dialled dialled = dialled.sock

-- the process or the system has no descriptor left: EMFILE and ENFILE of Linux
abbrev pub HasNoDescriptors : Error → Type 0
HasNoDescriptors error = (raw_os_error error ≡ Some (pos 24)) ⊎ (raw_os_error error ≡ Some (pos 23))

-- why a connect failed, by the kind of its error
abbrev pub cause_of_kind : ErrorKind → Cause
cause_of_kind ConnectionRefused = cause.Refused
cause_of_kind TimedOut = cause.Timeout
cause_of_kind _ = cause.Unreachable
