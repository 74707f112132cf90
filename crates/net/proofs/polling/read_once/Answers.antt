use Rattle.net.proofs.Polled.{read_told}
use Rattle.net.proofs.polling.read_once.Goals as goal

-- what the half tells
pub returns-in-Ok-clause-faults : goal.returns-in-Ok-clause-faults
returns-in-Ok-clause-faults g c = λ refused.
    read_told _ _ _ c.poll_read.result c.poll_read.ensures.allowed
