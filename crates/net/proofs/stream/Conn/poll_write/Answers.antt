use Rattle.std.proofs.Common.{Option, Err, inl, inr, sym, subst, arith}
use Rattle.rwloops.specs.declared.fault.Fault.{Fault}
use Rattle.rwloops.specs.declared.fault.Fault.TheVariants as fault
use Rattle.rwloops.specs.declared.tries.Progress.TheVariants as progress
use Rattle.fd_descriptor.specs.FdHandle.{marks_of}
use Rattle.net.specs.Conn.{IsWriteAnswer, handle_of}
use Rattle.net.proofs.stream.Conn.poll_write.Goals as goal

-- a write on a closed connection failed before its first byte
pub returns-then-look-clause-answer : goal.returns-then-look-clause-answer
returns-then-look-clause-answer g c = λ none.
    let W : Option Fault → Type 0 =
    λ u. IsWriteAnswer (Err (record { fault = fault.Closed; count = 0 })) c.refused_write.result u
    in let seen = marks_of (handle_of c.args.self.now)
    in (
      progress.Failed (record { fault = fault.Closed; count = 0 }),
      omega arith,
      inl (seen, seen, inr tt),
      subst W (sym c.take.ensures.after) c.refused_write.ensures.answer,
    )
