use Rattle.std.proofs.Common.{rules}
use Rattle.lockword.proofs.HeardSteps.{stays}
use Rattle.fd_descriptor.proofs.leave.leave.Goals as goal

pub returns-in-Kept-clause-heard : goal.returns-in-Kept-clause-heard
returns-in-Kept-clause-heard g c = search (rules, stays c.in-Kept.seat.place.me.0.heard)
