use Rattle.relay_core.proofs.AcceptTraceLemmas.{none_taken, one_taken}
use Rattle.relay_core.proofs.accept_task.Accepting.resume.Goals as goal

-- nothing was taken so far
pub loop-taken-init : goal.loop-taken-init
loop-taken-init g c = none_taken _

-- one more was accepted and delivered
pub loop-taken-preserved : goal.loop-taken-preserved
loop-taken-preserved g c = one_taken c.in-Some-Ok.taken c.loop-taken.invariant (λ calls h.
    c.deliver.ensures.told _ (rw c.in-Some-Ok.field-0-is at (c.in-Some-Ok.ensures.told calls h)))
