use Rattle.std.proofs.Common.{Err, inl, inr}
use Rattle.rwloops.specs.declared.fault.Fault.TheVariants as fault
use Rattle.fd_descriptor.specs.FdHandle.{marks_of}
use Rattle.net.specs.Conn.{handle_of}
use Rattle.net.proofs.stream.Conn.poll_read.Goals as goal

-- a read of a closed connection, which may be told so, whatever was seen
pub returns-then-look-clause-answer : goal.returns-then-look-clause-answer
returns-then-look-clause-answer g c =
    let seen = marks_of (handle_of c.args.self.now) in
    (Err fault.Closed, c.read_answer.ensures.answer, inl (seen, seen, inr tt), λ some. tt)
