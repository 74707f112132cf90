use Rattle.std.proofs.Common.{rules, refl, sym, ap, subst, inl, inr, ◌∙◌, List, [], ◌∷◌, ◌++◌}
use Rattle.lockword_core.specs.declared.stake.Op.{Op}
use Rattle.base_types.specs.declared.direction.Dir.{Dir}
use Rattle.lockword_core.specs.declared.stake.Op.TheVariants as op
use Rattle.lockword_core.specs.declared.stake.Answer.TheVariants as answer
use Rattle.lockword.specs.History.{IsMade}
use Rattle.lockword.proofs.HeardSteps.{goes_on_on}
use Rattle.lockword.proofs.HalfHome.{same_home}
use Rattle.fdmutex.proofs.Hearing.{hears_on, made_since}
use Rattle.fdmutex.proofs.locks.unlock.Goals as goal

pub returns-in-Free-clause-did : goal.returns-in-Free-clause-did
returns-in-Free-clause-did g c =
    let marks = c.loop.invariant.0 in
    inl (made_since _ _ _ _ _ c.loop.invariant.1 (c.loop.held.stake ∙ sym c.args.held.stake) marks.1 marks.3 marks.2
    c.loop.invariant.2 c.in-Free.ensures.answer.1)

pub returns-in-Free-clause-heard : goal.returns-in-Free-clause-heard
returns-in-Free-clause-heard g c = goes_on_on _ _ _ c.loop.invariant.2 (hears_on _ _ _ _ c.in-Free.ensures.answer.1)

pub returns-in-Owes-clause-did : goal.returns-in-Owes-clause-did
returns-in-Owes-clause-did g c =
    let marks = c.loop.invariant.0 in
    inr record {
      view = c.in-Owes.owing.place.me.0;
      gave_back = made_since _ _ _ _ _ c.loop.invariant.1 (c.loop.held.stake ∙ sym c.args.held.stake) marks.1
          marks.3 marks.2 c.loop.invariant.2 c.in-Owes.ensures.answer.0.1;
      signalled = subst
          (λ (d : Dir). IsMade (op.Signal d) answer.Signalled c.in-Owes.owing.place.me.0 c.signal.result.place.me.0)
          c.in-Owes.ensures.answer.1 c.signal.ensures.did;
    }

pub returns-in-Owes-clause-heard : goal.returns-in-Owes-clause-heard
returns-in-Owes-clause-heard g c =
    goes_on_on _ _ _ (goes_on_on _ _ _ c.loop.invariant.2 (hears_on _ _ _ _ c.in-Owes.ensures.answer.0.1))
    c.signal.ensures.heard

pub returns-in-Last-clause-did : goal.returns-in-Last-clause-did
returns-in-Last-clause-did g c =
    let marks = c.loop.invariant.0 in
    made_since _ _ _ _ _ c.loop.invariant.1 (c.loop.held.stake ∙ sym c.args.held.stake) marks.1 marks.3 marks.2
    c.loop.invariant.2 c.in-Last.ensures.answer.1

pub returns-in-Last-clause-heard : goal.returns-in-Last-clause-heard
returns-in-Last-clause-heard g c = goes_on_on _ _ _ c.loop.invariant.2 (hears_on _ _ _ _ c.in-Last.ensures.answer.1)

pub loop-preserved : goal.loop-preserved
loop-preserved g c = (
  search rules,
  search rules,
  goes_on_on _ _ _ c.loop.invariant.2 c.in-Lost.ensures.answer.1.1,
  c.in-Lost.ensures.half ∙ c.loop.invariant.3,
)

pub returns-in-Free-clause-home : goal.returns-in-Free-clause-home
returns-in-Free-clause-home g c =
    same_home _ _ _ _ _ _ refl (ap g.D.Guards.stored c.loop.invariant.3)
    (ap (λ (ops : List Op). ops ++ op.Unlock g.D.Direction.dir ∷ []) c.loop.invariant.1) c.in-Free.ensures.home

pub returns-in-Owes-clause-home : goal.returns-in-Owes-clause-home
returns-in-Owes-clause-home g c =
    same_home _ _ _ _ _ _ refl (ap g.D.Guards.stored c.loop.invariant.3)
    (ap (λ (ops : List Op). ops ++ op.Unlock g.D.Direction.dir ∷ []) c.loop.invariant.1) c.in-Owes.ensures.home

pub returns-in-Last-clause-home : goal.returns-in-Last-clause-home
returns-in-Last-clause-home g c =
    same_home _ _ _ _ _ _ refl (ap g.D.Guards.stored c.loop.invariant.3)
    (ap (λ (ops : List Op). ops ++ op.Unlock g.D.Direction.dir ∷ []) c.loop.invariant.1) c.in-Last.ensures.home
