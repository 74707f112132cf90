use Rattle.std.proofs.Common.{arith}
use Rattle.relay_core.specs.Passing.{AtEnd, AtClose, ToWait, AtItsEnd}
use Rattle.relay_core.proofs.PassingLemmas.{no_call, last_call}
use Rattle.relay_core.proofs.passing.close_once.Goals as goal

-- not yet
pub returns-in-None : goal.returns-in-None
returns-in-None g c = ToWait c.in-None.ensures.not_yet (λ amount. no_call amount c.in-None.ensures.silent)

-- the writer was told
pub returns-in-Some-Ok : goal.returns-in-Some-Ok
returns-in-Some-Ok g c = AtItsEnd _ (λ amount. last_call AtEnd
    (λ calls h. rw c.in-Some-Ok.field-0-is at (c.in-Some-Ok.ensures.told calls h)) (omega arith))

-- the writer couldn't be told
pub returns-in-Some-Err : goal.returns-in-Some-Err
returns-in-Some-Err g c = AtItsEnd _ (λ amount. last_call (AtClose _)
    (λ calls h. rw c.in-Some-Err.field-0-is at (c.in-Some-Err.ensures.told calls h)) (omega arith))
