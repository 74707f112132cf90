use Rattle.std.proofs.Common.{◌∙◌, ◌≤◌, sym, subst, Some, None, arith}
use Rattle.std.specs.BTreeSet.{IsLowerBound}
use Rattle.deadline_core.specs.TimerOrder.{IsFirstOf}
use Rattle.deadline_core.proofs.TimerOrderLemmas.{moment_cmp_is, armed_same}
use Rattle.deadline_core.proofs.StaleEntryLemmas.{first_late, first_due_is, nothing_armed, zero_is, without_from}
use Rattle.deadline_core.proofs.StaleEntryLemmas.{stale_gone, taken_gone}
use Rattle.deadline_core.proofs.timer_order.pop_first_due.Goals as goal

pub returns-then-entry-now-clause-first : goal.returns-then-entry-now-clause-first
returns-then-entry-now-clause-first g c =
    let m = c.loop-first.moments in
    let low = subst (λ R. IsLowerBound R c.loop-first.order c.in-Some.first.now) moment_cmp_is c.in-Some.ensures.least
    in
    subst (λ a. IsFirstOf a c.args.now None) (armed_same c.args.moments.now m c.loop-first.invariant.same)
    (first_late m c.loop-first.order c.args.now c.in-Some.first.now c.loop-first.invariant.stored low
    c.if-entry-now.true)

pub returns-then-is_current-clause-first : goal.returns-then-is_current-clause-first
returns-then-is_current-clause-first g c =
    let m = c.loop-first.moments in
    let k = c.in-Some.first.now in
    let low = subst (λ R. IsLowerBound R c.loop-first.order c.in-Some.first.now) moment_cmp_is c.in-Some.ensures.least
    in
    let come : k.0 ≤ c.args.now = (let not_late = c.if-entry-now.false in omega (arith, not_late)) in
    subst (λ a. IsFirstOf a c.args.now (Some (k.1, k.0))) (armed_same c.args.moments.now m c.loop-first.invariant.same)
    (first_due_is m c.loop-first.order c.args.now k c.loop-first.invariant.stored low
    (sym c.is_current.ensures ∙ c.if-is_current.true) come)

pub returns-then-is_current-clause-stored : goal.returns-then-is_current-clause-stored
returns-then-is_current-clause-stored g c =
    let without = without_from c.loop-first.order c.remove.new.self c.in-Some.first.now c.remove.ensures.updates.0 in
    taken_gone c.loop-first.moments c.take_out.new.moments c.loop-first.order c.remove.new.self c.in-Some.first.now
    without c.take_out.ensures c.loop-first.invariant.stored

pub loop-first-preserved : goal.loop-first-preserved
loop-first-preserved g c = record {
  stored =
      let without = without_from c.loop-first.order c.remove.new.self c.in-Some.first.now c.remove.ensures.updates.0 in
      stale_gone c.loop-first.moments c.loop-first.order c.remove.new.self c.in-Some.first.now without
      (sym c.is_current.ensures ∙ c.if-is_current.false) c.loop-first.invariant.stored;
  same = c.loop-first.invariant.same;
}

pub returns-clause-first : goal.returns-clause-first
returns-clause-first g c =
    let m = c.loop-first.moments in
    subst (λ a. IsFirstOf a c.args.now None) (armed_same c.args.moments.now m c.loop-first.invariant.same)
    (nothing_armed m c.loop-first.order c.args.now c.loop-first.invariant.stored
    (zero_is _ c.in_default.ensures.variant.1))
