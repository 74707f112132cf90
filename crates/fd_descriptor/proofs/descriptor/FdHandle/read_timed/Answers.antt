use Rattle.std.proofs.Common.{rules}
use Rattle.fd_descriptor.specs.HandleCalls.{TimedReads}
use Rattle.fd_descriptor.specs.Marks.{marks_in}
use Rattle.fd_descriptor.proofs.FaultLemmas.{own_fault}
use Rattle.fd_descriptor.proofs.descriptor.FdHandle.read_timed.Goals as goal

pub returns-clause-entry : goal.returns-clause-entry
returns-clause-entry g c =
    search (
      rules,
      own_fault TimedReads (marks_in c.args.self.now.seat) (marks_in c.with_half.new.seat)
          c.in_ok-with_half.field-0 (search rules),
    )
