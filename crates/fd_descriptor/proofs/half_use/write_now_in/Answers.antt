use Rattle.std.proofs.Common.{inr}
use Rattle.fd_descriptor.proofs.half_use.write_now_in.Goals as goal

pub returns-in-Ok-clause-polled : goal.returns-in-Ok-clause-polled
returns-in-Ok-clause-polled g c = inr c.write_now.ensures.trace
