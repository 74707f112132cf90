use Rattle.std.proofs.Common.{◌≡◌, ◌∷◌, []}
use Rattle.std.proofs.Props.{props}
use Rattle.lockword.proofs.Words.{refl, lock_stake, slot_of}
use Rattle.lockword.specs.contracts.local_view.LocalView as local_view
use Rattle.lockword.specs.contracts.shared_rule.Half as content
use Rattle.lockword.specs.declared.shared_rule.Half.TheVariants as half
use Rattle.lockword.specs.declared.directions.Direction.{Ghosts}
use Rattle.lockword.specs.declared.directions.Guards as guards
use Rattle.lockword.specs.declared.holders.Held.{Held}
use Rattle.lockword.specs.Lent.{with_half}
use Rattle.lockword.proofs.holders.Held.half.Goals as goal

module _ {D R W G : Type 0} {kept : guards.Ghosts D R W G} {way : Ghosts D} (l : Held D R W G kept way) where
  abbrev HasStake : Type 0
  HasStake = l.place.me.0.stake ≡ lock_stake way.dir

  abbrev HasSlot : Type 0
  HasSlot = l.place.me.1 ≡ (slot_of way.dir, half.Away) ∷ []

  -- two locks with the same seat and half are one
  one_lock : (w : G) → IsProp HasStake → IsProp HasSlot → (a : HasStake) (b : HasSlot)
      → record { place = l.place; half = w; stake = a; slots = b } ≡ with_half l w
  one_lock w p q a b i = record { place = l.place; half = w; stake = p a l.stake i; slots = q b l.slots i }

pub returns : goal.returns
returns g c =
    let l = c.args.self.now in
    let local = (local_view.the_row).coded in
    let content = (content.the_row g.row.R g.row.W).coded in (
      (refl, λ w. one_lock l w (hlevel (props, local)) (hlevel (props, content)) _ _),
      record { writes_back = tt; value = refl },
    )
