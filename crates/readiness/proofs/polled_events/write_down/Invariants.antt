use Rattle.std.proofs.Common.{◌≡◌, ◌≤◌, map, drop, ◌++◌}
use Rattle.arrayvec.specs.ArrayVec.{array_vec_len}
use Rattle.readiness.specs.Batch.{ev_of}
use Rattle.readiness.proofs.polled_events.write_down.Given as goal

abbrev pub invariant-loop-event : goal.invariant-loop-event
invariant-loop-event g l = record {
  room : array_vec_len l.evs ≤ l.event-index;
  whole : map ev_of l.event-items ≡ l.evs.items ++ map ev_of (drop l.event-index l.event-items);
}
