use Rattle.std.proofs.Common.{arith, Ok, Err}
use Rattle.relay_core.specs.Passing.{NoCall, Writes, AtWrite, AtCredit, ToWait, AtItsEnd}
use Rattle.relay_core.proofs.PassingLemmas.{no_call, one_call, last_call}
use Rattle.relay_core.proofs.passing.offer.Goals as goal

-- not yet
pub returns-in-None-clause-stopped : goal.returns-in-None-clause-stopped
returns-in-None-clause-stopped g c =
    ToWait c.in-None.ensures.not_yet (no_call c.args.share.now c.in-None.ensures.silent)

-- some bytes were taken, and credited
pub returns-in-Ok-clause-rest : goal.returns-in-Ok-clause-rest
returns-in-Ok-clause-rest g c = one_call
    (Writes NoCall c.requires.some c.in-Some-Ok.count (rw c.in-Some-Ok.field-0-is at c.in-Some-Ok.ensures.takes))
    (λ calls h. rw c.in-Some-Ok.field-0-is at (c.in-Some-Ok.ensures.told calls h))
    (omega (arith, c.in-Ok.ensures.amount))

-- what was taken is not credited
pub returns-in-Err-clause-stopped : goal.returns-in-Err-clause-stopped
returns-in-Err-clause-stopped g c = AtItsEnd _ (last_call (AtCredit c.args.bytes.now c.requires.some
    (Ok c.in-Some-Ok.count)
    (rw c.in-Some-Ok.field-0-is at c.in-Some-Ok.ensures.takes))
    (λ calls h. rw c.in-Some-Ok.field-0-is at (c.in-Some-Ok.ensures.told calls h))
    (omega (arith, c.in-Err.ensures.kept)))

-- a write failed, and what it reported is credited
pub returns-in-Ok-credit-clause-stopped : goal.returns-in-Ok-credit-clause-stopped
returns-in-Ok-credit-clause-stopped g c =
    AtItsEnd _ (last_call (AtWrite c.args.bytes.now c.requires.some c.in-Some-Err.failed
    (rw c.in-Some-Err.field-0-is at c.in-Some-Err.ensures.part))
    (λ calls h. rw c.in-Some-Err.field-0-is at (c.in-Some-Err.ensures.told calls h))
    (omega (arith, c.in-Ok-credit.ensures.amount)))

-- a write failed, and what it reported is not credited
pub returns-in-Err-credit-clause-stopped : goal.returns-in-Err-credit-clause-stopped
returns-in-Err-credit-clause-stopped g c =
    AtItsEnd _ (last_call (AtCredit c.args.bytes.now c.requires.some (Err c.in-Some-Err.failed)
    (rw c.in-Some-Err.field-0-is at c.in-Some-Err.ensures.part))
    (λ calls h. rw c.in-Some-Err.field-0-is at (c.in-Some-Err.ensures.told calls h))
    (omega (arith, c.in-Err-credit.ensures.kept)))
