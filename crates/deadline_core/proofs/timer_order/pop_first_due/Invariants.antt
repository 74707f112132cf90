use Rattle.std.proofs.Common.{btree_set_len}
use Rattle.deadline_core.specs.TimerOrder.{IsStored, SameMoments}
use Rattle.deadline_core.proofs.timer_order.pop_first_due.Given as goal

abbrev pub invariant-loop-first : goal.invariant-loop-first
invariant-loop-first g l = record {
  stored : IsStored l.moments l.order;
  same : SameMoments l.fn.moments l.moments;
}

abbrev pub decreases-loop-first : goal.decreases-loop-first
decreases-loop-first g l = btree_set_len l.order
