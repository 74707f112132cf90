-- A writer, as its callers see it.
use Rattle.std.specs.Prelude.{Option}
use Rattle.std.specs.Global.{Global}
use Rattle.rwloops.specs.declared.fault.Fault.{Fault}
use Rattle.fd_descriptor.specs.declared.descriptor.FdHandle.{FdHandle}
use Rattle.handle_io.specs.declared.writer.HandleWriter.{HandleWriter}

module _ {X T R W C : Type 0} where
  -- the handle by which it writes
  abbrev pub handle_of : HandleWriter X T R W C → FdHandle X Global R W C
  handle_of writer = writer.handle

  -- the fault of a write that was cut off, which the next write tells
  abbrev pub untold_of : HandleWriter X T R W C → Option Fault
  untold_of writer = writer.untold
