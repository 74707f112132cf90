use Rattle.std.proofs.Common.{inr}
use Rattle.rwloops.specs.declared.fault.Fault.TheVariants as fault
use Rattle.fd_descriptor.specs.FdHandle.{marks_of}
use Rattle.net.specs.Conn.{handle_of}
use Rattle.net.proofs.stream.Conn.look_open.Goals as goal

-- a wait for a connection may be told that it is closed, whatever was seen
pub returns-then-look-clause-fails : goal.returns-then-look-clause-fails
returns-then-look-clause-fails g c =
    let seen = marks_of (handle_of c.args.self.now) in
    (fault.Closed, (seen, seen, inr tt), c.error_with.ensures.tells)
