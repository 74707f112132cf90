use Rattle.std.proofs.Common.{◌∙◌, ◌∷◌, []}
use Rattle.lockword.proofs.Words.{rules, ap, rest}
use Rattle.atomic_table.specs.Table.{turned}
use Rattle.lockword.specs.declared.shared_rule.Half.TheVariants as half
use Rattle.lockword.specs.Slots.{slots_of}
use Rattle.lockword.proofs.Exchanges.{has_old}
use Rattle.lockword.proofs.DestroySteps.{empties}
use Rattle.lockword.proofs.holders.Last.halves.Goals as goal

pub load-requires : goal.load-requires
load-requires g c = (search rules, search rules, empties _ _ _ _ _ c.args.self.now.stake c.requires.not_taken)

pub exchange-requires : goal.exchange-requires
exchange-requires g c = let did = c.load.ensures.2.1 in (search rules, has_old _ _ _ _ _ _ did.2)

pub exchange-requires-2 : goal.exchange-requires-2
exchange-requires-2 g c =
    let did = c.load.ensures.2.1 in
    let e = c.exchange.ensures.3 in
    let bare = c.args.self.now.slots ∙ ap slots_of c.requires.not_taken in (
      search rules,
      has_old _ _ _ 0 (half.Read did.0) ((1, half.Away) ∷ [])
          (ap (λ m. m.1) c.turn.ensures.2
          ∙ (ap (λ m. turned m.1) e ∙ ap (λ l. turned ((1, half.Away) ∷ rest l))
          (did.2 ∙ ap (λ l. (1, half.Write did.1) ∷ ((0, half.Read did.0) ∷ l)) bare))),
    )
