use Rattle.std.proofs.Common.{rules}
use Rattle.relay_workers.proofs.RoundLemmas.{more_rounds, run_after}
use Rattle.relay_workers.proofs.copying.copy_until_full.Goals as goal

-- one round more
pub loop-preserved : goal.loop-preserved
loop-preserved g c = record {
  room = search rules;
  so_far = more_rounds c.loop.invariant.so_far c.in-Ok.ensures.so_far;
}

-- a round whose read filled the buffer
pub returns-in-Ok-2-clause-so_far : goal.returns-in-Ok-2-clause-so_far
returns-in-Ok-2-clause-so_far g c = more_rounds c.loop.invariant.so_far c.in-Ok-2.ensures.so_far

-- the last calls
pub returns-in-Err-clause-copied : goal.returns-in-Err-clause-copied
returns-in-Err-clause-copied g c = run_after c.loop.invariant.so_far c.in-Err.ensures.copied
