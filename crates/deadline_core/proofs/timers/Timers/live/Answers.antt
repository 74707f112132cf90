use Rattle.std.proofs.Common.{ap, sym, subst, ◌∙◌}
use Rattle.std.specs.BTreeMap as tree
use Rattle.std.specs.FinMap.{len}
use Rattle.deadline_core.proofs.TimerOrderLemmas.{armed_len, slot_cmp_is}
use Rattle.deadline_core.proofs.timers.Timers.live.Goals as goal

pub returns : goal.returns
returns g c = c.len.ensures.len ∙ sym (armed_len c.self.inside.moments
    (subst (λ R. tree.IsOrdered R c.self.inside.moments) slot_cmp_is c.len.ensures.ordered)) ∙ ap len c.self.view_is
