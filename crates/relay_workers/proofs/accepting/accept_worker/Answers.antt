use Rattle.std.proofs.Common.{arith}
use Rattle.relay_core.proofs.AcceptTraceLemmas.{none_taken, one_taken, then_borne, then_ended, run_goes_on, run_pauses}
use Rattle.relay_core.proofs.AcceptTraceLemmas.{run_ends}
use Rattle.relay_workers.proofs.accepting.accept_worker.Goals as goal

-- one was accepted and delivered
pub loop-preserved-in-Ok : goal.loop-preserved-in-Ok
loop-preserved-in-Ok g c = rw c.new-accepting-in-Ok.ensures (run_goes_on c.loop.invariant
    (one_taken c.in-Ok.taken (none_taken _) (λ calls h. c.deliver.ensures.told _ (c.in-Ok.ensures.told calls h))))

-- a fault, and its pause
pub loop-preserved : goal.loop-preserved
loop-preserved g c = run_pauses c.loop.invariant
    (then_borne 0 c.in-Err.fault (omega arith) (none_taken _) c.in-Pauses.ensures.pauses
    (λ calls h. c.in-Err.ensures.told calls h))
    (λ calls h. c.pause.ensures.told calls h)

-- the last accept
pub returns-in-Ended : goal.returns-in-Ended
returns-in-Ended g c = run_ends c.loop.invariant
    (then_ended 0 c.in-Err.fault (omega arith) (none_taken _) c.in-Ended.ensures.ended
    (λ calls h. c.in-Err.ensures.told calls h))
