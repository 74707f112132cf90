use Rattle.std.proofs.Common.{rules}
use Rattle.lockword.proofs.HeardSteps.{goes_on_on}
use Rattle.fd_descriptor.proofs.HalfLemmas.{left_hearing}
use Rattle.fd_descriptor.proofs.descriptor.FdHandle.set.Goals as goal

pub returns-clause-entry : goal.returns-clause-entry
returns-clause-entry g c =
    search (
      rules,
      goes_on_on _ _ _ c.in-Ok.ensures.heard
          (left_hearing c.in-Ok.held.place c.decref.result _ c.decref.ensures.heard c.leave.ensures.heard),
    )
