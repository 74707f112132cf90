use Rattle.std.proofs.Common.{ℕ, arith}
use Rattle.deadline_core.specs.DueOrder.{Slot}
use Rattle.deadline_core.proofs.DueLemmas.{one_more}
use Rattle.deadline_core.proofs.timers.Timers.due.Goals as goal

pub loop-preserved : goal.loop-preserved
loop-preserved g c = record {
  room = omega (arith, c.push.ensures.len, c.loop.invariant.room);
  so_far =
      let first : Slot × ℕ = (c.in-Some.slot, c.in-Some.field-0-1) in
      rw (c.push.ensures.items, c.in-Some.ensures.taken)
      (one_more _ _ _ _ _ first c.loop.invariant.so_far c.in-Some.ensures.first);
}
