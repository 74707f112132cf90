-- The kinds of errors of the standard library that tell a handle's faults.
use Rattle.std.specs.declared.io.ErrorKind.{ErrorKind}
use Rattle.std.specs.declared.io.ErrorKind.TheVariants as kind
use Rattle.rwloops.specs.declared.fault.Fault.{Fault}
use Rattle.rwloops.specs.declared.fault.Fault.TheVariants as fault
use Rattle.rwloops.specs.declared.outcome.DevKind.TheVariants as device

-- The kind that tells each fault. A read doesn't tell the stream's end so, but as a count of 0.
abbrev pub kind_told : Fault → ErrorKind
kind_told fault.Closed = kind.NotConnected
kind_told fault.Draining = kind.NotConnected
kind_told fault.DeadlineExceeded = kind.TimedOut
kind_told fault.EndOfFile = kind.UnexpectedEof
kind_told fault.UnexpectedEof = kind.WriteZero
kind_told (fault.Device device.Reset) = kind.ConnectionReset
kind_told (fault.Device device.Aborted) = kind.ConnectionAborted
kind_told (fault.Device device.BrokenPipe) = kind.BrokenPipe
kind_told (fault.Device device.Refused) = kind.ConnectionRefused
kind_told (fault.Device device.Other) = kind.Other
kind_told fault.TooManyRetries = kind.Other
kind_told fault.TooMany = kind.Other
kind_told fault.OutOfMemory = kind.OutOfMemory
