use Rattle.std.proofs.Common.{◌∙◌, [], ◌∷◌, ◌++◌, List, ap}
use Rattle.lockword_core.specs.declared.stake.Op.{Op}
use Rattle.lockword_core.specs.declared.stake.Op.TheVariants as op
use Rattle.lockword.proofs.HeardSteps.{goes_on_on}
use Rattle.fdmutex.proofs.Hearing.{hears_on}
use Rattle.fd_descriptor.proofs.HalfLemmas.{goes_on_same}
use Rattle.fd_descriptor.proofs.leave.finish.Goals as goal

pub returns-clause-did : goal.returns-clause-did
returns-clause-did g c =
    c.mark_done.ensures.made.did ∙ ap (λ (ops : List Op). ops ++ op.Destroy ∷ []) c.halves-read.ensures.same_deeds

pub returns-clause-heard : goal.returns-clause-heard
returns-clause-heard g c =
    goes_on_on _ _ _ (goes_on_same _ _ c.halves-read.ensures.same_heard)
    (hears_on _ _ _ _ c.mark_done.ensures.made)
