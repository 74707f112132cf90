use Rattle.std.proofs.Common.{inl, inr}
use Rattle.rwloops.specs.declared.fault.Fault.TheVariants as fault
use Rattle.fd_descriptor.specs.FdHandle.{marks_of}
use Rattle.net.specs.Listener.{listening_handle}
use Rattle.net.proofs.accepting.Listener.accept_in_time.Goals as goal

-- an accept may be told that the listener is closed, whatever was seen
pub returns-then-look-clause-fails : goal.returns-then-look-clause-fails
returns-then-look-clause-fails g c =
    let seen = marks_of (listening_handle c.args.self.now) in
    inl (fault.Closed, (seen, seen, inr tt), c.error_with.ensures.tells)
