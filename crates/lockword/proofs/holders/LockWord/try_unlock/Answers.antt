use Rattle.std.proofs.Common.{◌∙◌, ◌∷◌, [], ◌++◌}
use Rattle.lockword_core.specs.declared.stake.Op.TheVariants as op
use Rattle.lockword.proofs.HalfHome.{same_home}
use Rattle.lockword.proofs.Words.{ap, sym, subst, rest, Dir, IsHalf}
use Rattle.lockword.specs.Marks.{deeds}
use Rattle.lockword.specs.Places.{lock_place}
use Rattle.lockword.proofs.holders.LockWord.try_unlock.Goals as goal

pub try_step-requires-clause-slots : goal.try_step-requires-clause-slots
try_step-requires-clause-slots g c =
    let is = subst (λ d. IsHalf d c.to_slot.result) (sym c.dir-dir.ensures) c.to_slot.ensures.half in (
      is.0,
      ap (λ m. m.1) c.exchange.ensures.3
          ∙ (ap (λ l. (c.slot.result, c.to_slot.result) ∷ rest l) c.args.lock.slots
          ∙ λ i. (c.slot.ensures.value i, is.1 i) ∷ []),
    )

pub returns-in-Done-Last-clause-home : goal.returns-in-Done-Last-clause-home
returns-in-Done-Last-clause-home g c =
    let slots = ap (λ m. m.1) c.exchange.ensures.3
    ∙ (ap (λ l. (c.slot.result, c.to_slot.result) ∷ rest l) c.args.lock.slots
    ∙ λ i. (c.slot.ensures.value i, c.to_slot.result) ∷ []) in
    let step = c.in-Done-Last.ensures.step in
    same_home _ _ _ _ _ _ c.dir-dir.ensures c.to_slot.ensures.same
    (step.0.2.1.did ∙ (ap (λ m. m.0.did ++ op.Unlock c.dir-dir.result ∷ []) c.exchange.ensures.3
    ∙ ap (λ (d : Dir). deeds (lock_place c.args.lock) ++ op.Unlock d ∷ []) c.dir-dir.ensures))
    (step.1 c.to_slot.result slots)
