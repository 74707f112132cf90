use Rattle.net.proofs.Polled.{write_told}
use Rattle.net.proofs.polling.write_once.Goals as goal

-- what the half tells
pub returns-in-Ok-clause-faults : goal.returns-in-Ok-clause-faults
returns-in-Ok-clause-faults g c = λ refused.
    write_told _ _ _ c.poll_write.result c.poll_write.ensures.allowed
