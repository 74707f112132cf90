use Rattle.std.proofs.Common.{rules}
use Rattle.relay_workers.proofs.RoundLemmas.{more_rounds, run_after}
use Rattle.relay_workers.proofs.copying.copy_worker.Goals as goal

-- one round more
pub loop-preserved : goal.loop-preserved
loop-preserved g c = record {
  room = search rules;
  so_far = more_rounds c.loop.invariant.so_far c.in-Ok.ensures.so_far;
}

-- the last calls
pub returns-in-Err : goal.returns-in-Err
returns-in-Err g c = record { copied = run_after c.loop.invariant.so_far c.in-Err.ensures.copied }
