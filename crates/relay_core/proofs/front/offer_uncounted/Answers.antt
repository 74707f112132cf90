use Rattle.std.proofs.Common.{arith}
use Rattle.relay_core.specs.Passing.{NoCall, Writes, AtWrite, ToWait, AtItsEnd}
use Rattle.relay_core.proofs.PassingLemmas.{no_call, one_call, last_call}
use Rattle.relay_core.proofs.front.offer_uncounted.Goals as goal

-- not yet
pub returns-in-None-clause-stopped : goal.returns-in-None-clause-stopped
returns-in-None-clause-stopped g c =
    ToWait c.in-None.ensures.not_yet (no_call 0 c.in-None.ensures.silent)

-- some bytes were taken
pub returns-in-Some-Ok-clause-rest : goal.returns-in-Some-Ok-clause-rest
returns-in-Some-Ok-clause-rest g c = one_call
    (Writes NoCall c.requires.some c.in-Some-Ok.count (rw c.in-Some-Ok.field-0-is at c.in-Some-Ok.ensures.takes))
    (λ calls h. rw c.in-Some-Ok.field-0-is at (c.in-Some-Ok.ensures.told calls h))
    (omega arith)

-- a write failed
pub returns-in-Some-Err-clause-stopped : goal.returns-in-Some-Err-clause-stopped
returns-in-Some-Err-clause-stopped g c =
    AtItsEnd _ (
      c.in-Some-Err.failed.count,
      last_call (AtWrite c.args.bytes.now c.requires.some c.in-Some-Err.failed
          (rw c.in-Some-Err.field-0-is at c.in-Some-Err.ensures.part))
          (λ calls h. rw c.in-Some-Err.field-0-is at (c.in-Some-Err.ensures.told calls h))
          (omega arith),
    )
