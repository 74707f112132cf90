use Rattle.std.proofs.Common.{rules}
use Rattle.fd_descriptor.specs.Marks.{marks_in}
use Rattle.fd_descriptor.proofs.FaultLemmas.{own_write_fault}
use Rattle.fd_descriptor.proofs.descriptor.FdHandle.write.Goals as goal

pub returns-in-Ok-clause-allowed : goal.returns-in-Ok-clause-allowed
returns-in-Ok-clause-allowed g c =
    own_write_fault (marks_in c.args.self.now.seat) (marks_in c.with_half.new.seat) c.in-Ok.answer (search rules)
