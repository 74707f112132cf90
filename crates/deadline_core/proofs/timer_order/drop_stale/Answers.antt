use Rattle.std.proofs.Common.{◌≡◌, filter, rules, subst, arith}
use Rattle.std.specs.BTreeSet as sorted
use Rattle.std.proofs.lemmas.Fn.{filter_same}
use Rattle.deadline_core.specs.TimerOrder.{is_current_in}
use Rattle.deadline_core.proofs.TimerOrderLemmas.{moment_cmp_is}
use Rattle.deadline_core.proofs.StaleEntryLemmas.{dropped_stored, dropped_len}
use Rattle.deadline_core.proofs.timer_order.drop_stale.Goals as goal

pub returns-then-saturating_sub-len-clause-stored : goal.returns-then-saturating_sub-len-clause-stored
returns-then-saturating_sub-len-clause-stored g c =
    let is : c.retain.new.self.keys ≡ filter (is_current_in c.args.moments.now) c.drop_stale_ahead.new.order.keys =
    filter_same _ (is_current_in c.args.moments.now) _ (λ x b f' k. search rules) _ _ c.retain.ensures.filtered in
    dropped_stored c.args.moments.now c.drop_stale_ahead.new.order c.retain.new.self is c.drop_stale_ahead.ensures

pub returns-then-saturating_sub-len-clause-bound : goal.returns-then-saturating_sub-len-clause-bound
returns-then-saturating_sub-len-clause-bound g c =
    let is : c.retain.new.self.keys ≡ filter (is_current_in c.args.moments.now) c.drop_stale_ahead.new.order.keys =
    filter_same _ (is_current_in c.args.moments.now) _ (λ x b f' k. search rules) _ _ c.retain.ensures.filtered in
    let few = dropped_len c.args.moments.now c.drop_stale_ahead.new.order c.retain.new.self is
    (subst (λ R. sorted.IsOrdered R c.retain.new.self) moment_cmp_is c.retain.ensures.ordered) in
    omega (arith, few)
