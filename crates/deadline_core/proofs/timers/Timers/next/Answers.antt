use Rattle.std.proofs.Common.{◌∙◌, sym, subst, ◌∷◌}
use Rattle.deadline_core.specs.TimerOrder.{armed_in}
use Rattle.deadline_core.specs.Timers.{IsLeastMoment}
use Rattle.deadline_core.proofs.StaleEntryLemmas.{Ahead, ahead_from, ahead_next, least_here, none_ahead}
use Rattle.deadline_core.proofs.timers.Timers.next.Goals as goal

pub loop-stored-init : goal.loop-stored-init
loop-stored-init g c =
    subst (λ a. Ahead a c.into_iter-stored-iterator.result) c.self.view_is
    (ahead_from c.self.inside.moments c.self.inside.order c.into_iter-stored-iterator.result c.self.invariant.0
    c.iter-stored-items.ensures.ordered (c.into_iter-stored-iterator.ensures.into_iter_gives ∙
    c.iter-stored-items.ensures.rest))

pub loop-stored-preserved : goal.loop-stored-preserved
loop-stored-preserved g c =
    let k = c.in-Some.stored.now in
    let here : Ahead (armed_in c.self.inside.moments) (k ∷ c.next.new.self) =
    subst (λ l. Ahead (armed_in c.self.inside.moments) l) c.in-Some.ensures.steps
    (subst (λ a. Ahead a c.loop-stored.stored-iterator) (sym c.self.view_is) c.loop-stored.invariant) in
    subst (λ a. Ahead a c.next.new.self) c.self.view_is
    (ahead_next c.self.inside.moments k c.next.new.self (sym c.is_current.ensures ∙ c.if-is_current.false) here)

pub returns-then-is_current-clause-least : goal.returns-then-is_current-clause-least
returns-then-is_current-clause-least g c =
    let k = c.in-Some.stored.now in
    let here : Ahead (armed_in c.self.inside.moments) (k ∷ c.next.new.self) =
    subst (λ l. Ahead (armed_in c.self.inside.moments) l) c.in-Some.ensures.steps
    (subst (λ a. Ahead a c.loop-stored.stored-iterator) (sym c.self.view_is) c.loop-stored.invariant) in
    subst (λ a. IsLeastMoment a k.0) c.self.view_is
    (least_here c.self.inside.moments k c.next.new.self (sym c.is_current.ensures ∙ c.if-is_current.true) here)

pub returns-clause-none : goal.returns-clause-none
returns-clause-none g c =
    let here = subst (λ a. Ahead a c.loop-stored.stored-iterator) (sym c.self.view_is) c.loop-stored.invariant in
    sym c.self.view_is ∙ none_ahead c.self.inside.moments
    (subst (λ l. Ahead (armed_in c.self.inside.moments) l) c.in-None.ensures.steps.0 here)
