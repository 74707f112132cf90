use Rattle.std.proofs.Common.{rules}
use Rattle.fd_descriptor.specs.HandleCalls.{Connects}
use Rattle.fd_descriptor.specs.Marks.{marks_in}
use Rattle.fd_descriptor.proofs.FaultLemmas.{own_fault}
use Rattle.fd_descriptor.proofs.descriptor.FdHandle.connected.Goals as goal

pub returns : goal.returns
returns g c =
    search (
      rules,
      own_fault Connects (marks_in c.args.self.now.seat) (marks_in c.with_half.new.seat)
          c.in_ok-with_half.field-0 (search rules),
    )
