use Rattle.std.proofs.Common.{◌≡◌, ap, sym, subst, ◌∙◌, btree_map_len, arith}
use Rattle.std.specs.BTreeMap as tree
use Rattle.std.specs.FinMap.{len}
use Rattle.deadline_core.proofs.TimerOrderLemmas.{armed_len, slot_cmp_is}
use Rattle.deadline_core.proofs.StaleEntryLemmas.{stored_len}
use Rattle.deadline_core.proofs.timers.Timers.stored.Goals as goal

pub returns : goal.returns
returns g c =
    let ordered = subst (λ R. tree.IsOrdered R c.self.inside.moments) slot_cmp_is c.len.ensures.ordered in
    let live : btree_map_len c.self.inside.moments ≡ len c.args.self.now =
    sym (armed_len c.self.inside.moments ordered) ∙ ap len c.self.view_is in
    let small = c.self.invariant.1 in
    let many = stored_len c.self.inside.moments c.self.inside.order c.self.invariant.0 ordered in
    record {
      all = omega (arith, c.len-2.ensures.len, many, live);
      bound =
          omega (arith, c.len-2.ensures.len, small, live);
    }
