use Rattle.std.proofs.Common.{◌∙◌, ◌∷◌}
use Rattle.lockword.proofs.Words.{rules, ap, sym, subst, After, half_of, IsHalf}
use Rattle.lockword_core.specs.declared.transition.Kind.TheVariants as kind
use Rattle.lockword.specs.Steps.{Came}
use Rattle.lockword.proofs.Exchanges.{has_old, found_half}
use Rattle.lockword.proofs.holders.LockWord.try_lock.Goals as goal

pub exchange-found-requires : goal.exchange-found-requires
exchange-found-requires g c =
    let d = c.dir-dir.result in
    let did = subst
    (λ (a : After). Came
    (kind.Lock d) a c.args.seat.place c.try_step.new.place) c.in-Done-Held.field-0-is c.in-Done-Held.ensures.step.0 in (
      search rules,
      has_old _ _ _ c.slot.result (half_of d did.1.0) _
          (did.1.1 ∙ ap (λ i. (i, half_of d did.1.0) ∷ c.args.seat.place.me.1) (sym c.slot.ensures.value)),
    )

pub from_slot-requires : goal.from_slot-requires
from_slot-requires g c =
    let d = c.dir-dir.result in
    let did = subst
    (λ (a : After). Came
    (kind.Lock d) a c.args.seat.place c.try_step.new.place) c.in-Done-Held.field-0-is c.in-Done-Held.ensures.step.0 in
    subst (λ d. IsHalf d c.exchange-found.result) c.dir-dir.ensures
    (found_half _ _ d did.1.0 _ _ _ _ did.1.1 c.exchange-found.ensures.2)
