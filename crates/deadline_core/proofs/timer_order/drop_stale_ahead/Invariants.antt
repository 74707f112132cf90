use Rattle.std.proofs.Common.{btree_set_len}
use Rattle.deadline_core.specs.TimerOrder.{IsStored}
use Rattle.deadline_core.proofs.timer_order.drop_stale_ahead.Given as goal

abbrev pub invariant-loop-order : goal.invariant-loop-order
invariant-loop-order g l = IsStored l.moments l.order

abbrev pub decreases-loop-order : goal.decreases-loop-order
decreases-loop-order g l = btree_set_len l.order
