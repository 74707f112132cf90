use Rattle.relay_workers.proofs.RoundLemmas.{run_after}
use Rattle.relay_workers.proofs.buffers.copy_by_need.Goals as goal

-- the small buffer's rounds, and then the large one's run
pub returns-in-None : goal.returns-in-None
returns-in-None g c = record { copied = run_after c.in-None.ensures.so_far c.copy_large.ensures.copied }
