-- A reader, as its callers see it.
use Rattle.fd_descriptor.specs.declared.descriptor.FdHandle.{FdHandle}
use Rattle.handle_io.specs.declared.reader.HandleReader.{HandleReader}
use Rattle.std.specs.Global.{Global}

module _ {X T R W C : Type 0} where
  -- the handle by which it reads
  abbrev pub handle_of : HandleReader X T R W C → FdHandle X Global R W C
  handle_of reader = reader.handle
