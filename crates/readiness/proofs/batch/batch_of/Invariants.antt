use Rattle.std.proofs.Common.{◌≡◌, ◌≤◌, drop, ◌++◌}
use Rattle.arrayvec.specs.ArrayVec.{array_vec_len}
use Rattle.readiness.specs.Batch.{batch}
use Rattle.readiness.proofs.batch.batch_of.Given as goal

abbrev pub invariant-loop-event : goal.invariant-loop-event
invariant-loop-event g l = record {
  room : array_vec_len l.ready ≤ l.event-index;
  whole : batch l.table.entries l.events ≡ l.ready.items ++ batch l.table.entries (drop l.event-index l.events);
}
