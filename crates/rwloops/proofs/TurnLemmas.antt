-- What comes right before and right after a wait. Lists are newest first.
use Rattle.std.proofs.Common.{◌≡◌, refl, ap, subst, List, [], ◌∷◌, ◌++◌, Result, IsTrue, IsFalse}
use Rattle.base_types.specs.declared.direction.Dir.{Dir}
use Rattle.deadline_core.specs.declared.refusal.Refusal.{Refusal}
use Rattle.rwloops.specs.Waits.{Prepared, Waited}
use Rattle.rwloops.specs.OutcomeTrace.{OutcomeRules, EachTry}
use Rattle.rwloops.specs.Turns.{Event, Tried, Asked, ComesAfter, TakesTurns, HasOneWaitEach}
use Rattle.rwloops.proofs.TraceLemmas.{try_among}

module _ {A D : Type 0} (rules : OutcomeRules A D) where
  -- the oldest of these events is a wait
  abbrev BeginsWithWait : List (Event A) → Type 0
  BeginsWithWait newer = (rest : List (Event A)) × (answer : Result (Unit {0}) Refusal)
      × (newer ≡ rest ++ (Asked (Waited rules.dir answer) ∷ []))

  wait_follows : (newest : Event A) (newer older : List (Event A)) (made : A) →
      EachTry (ComesAfter rules) (newest ∷ (newer ++ (Tried made ∷ older))) → IsTrue (rules.blocks made) →
      BeginsWithWait (newest ∷ newer)
  wait_follows (Asked (Waited dir answer)) [] older made each blocks =
      ([], answer, ap (λ d. Asked (Waited d answer) ∷ []) each.0.0)
  wait_follows (Asked (Prepared dir answer)) [] older made each blocks = absurd each.0
  wait_follows (Tried later) [] older made each blocks =
      absurd (let quick : IsFalse (rules.blocks made) = each.0 in cc)
  wait_follows newest (next ∷ newer) older made each blocks =
      let w = wait_follows next newer older made each.1 blocks in
      (newest ∷ w.0, w.1, ap (λ events. newest ∷ events) w.2)

  wait_after : (newer older : List (Event A)) (made : A) → TakesTurns rules (newer ++ (Tried made ∷ older)) →
      IsTrue (rules.blocks made) → BeginsWithWait newer
  wait_after [] older made turns blocks = absurd (let quick : IsFalse (rules.blocks made) = turns.ends in cc)
  wait_after (newest ∷ newer) older made turns blocks = wait_follows newest newer older made turns.order blocks

  block_before : (dir : Dir) (answer : Result (Unit {0}) Refusal) (older : List (Event A)) →
      ComesAfter rules (Asked (Waited dir answer)) older →
      (made : A) × (earlier : List (Event A)) × (older ≡ Tried made ∷ earlier) × IsTrue (rules.blocks made)
  block_before dir answer [] comes = absurd comes
  block_before dir answer (Tried made ∷ earlier) comes = (made, earlier, refl, comes.1)
  block_before dir answer (Asked call ∷ earlier) comes = absurd comes

  pub one_wait_each : HasOneWaitEach rules
  one_wait_each = record {
    after = λ events newer older made turns is blocks.
        wait_after newer older made (subst (TakesTurns rules) is turns) blocks;
    before = λ events newer older dir answer turns is.
        block_before dir answer older (try_among (ComesAfter rules) newer older (Asked (Waited dir answer))
        (subst (EachTry (ComesAfter rules)) is turns.order));
  }
