use Rattle.std.proofs.Common.{rules}
use Rattle.fd_descriptor.proofs.HalfLemmas.{goes_on_same}
use Rattle.fd_descriptor.proofs.close.end_close.Goals as goal

pub returns-in-Kept-clause-heard : goal.returns-in-Kept-clause-heard
returns-in-Kept-clause-heard g c = search (rules, goes_on_same _ _ c.wait_done.ensures.same_heard)
