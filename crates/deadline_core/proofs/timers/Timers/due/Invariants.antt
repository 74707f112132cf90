use Rattle.std.proofs.Common.{◌≡◌}
use Rattle.arrayvec.specs.ArrayVec.{array_vec_len}
use Rattle.deadline_core.proofs.DueLemmas.{DueSoFar}
use Rattle.deadline_core.proofs.timers.Timers.due.Given as goal

abbrev pub invariant-loop : goal.invariant-loop
invariant-loop g l = record {
  room : array_vec_len l.given ≡ l.counter;
  so_far : DueSoFar l.fn.self l.self l.now l.given.items l.counter;
}
