use Rattle.std.proofs.Common.{refl, ap}
use Rattle.rwloops.specs.OutcomeTrace.{is_open}
use Rattle.rwloops.proofs.TryNowLemmas.{now_on, now_blocked, now_decided}
use Rattle.rwloops.proofs.AcceptLemmas.{accept_goes_on_with, answers_taken, answers_fault}
use Rattle.rwloops.proofs.tries.accept_tries.Goals as goal

-- the loop tries again at once
pub loop-taken-preserved : goal.loop-taken-preserved
loop-taken-preserved g c = now_on _ _ _ _ _ _ _ _ (accept_goes_on_with _) (accept_goes_on_with _)
    c.loop-taken.invariant (c.try_once.ensures.turn _) c.in-Try.is

-- a wait would come
pub returns-in-Wait : goal.returns-in-Wait
returns-in-Wait g c = now_blocked _ _ _ _ _ _ _ _ (accept_goes_on_with _) (accept_goes_on_with _) _ _
    c.loop-taken.invariant (c.try_once.ensures.turn _) c.in-Wait.is (λ refusal made earlier none. refl)

-- a connection was taken
pub returns-in-Done : goal.returns-in-Done
returns-in-Done g c = now_decided _ _ _ _ _ _ _ _ (accept_goes_on_with _) (accept_goes_on_with _) _ _
    c.loop-taken.invariant (c.try_once.ensures.turn _) (ap is_open c.in-Done.is) (answers_taken _ _ c.in-Done.is)

-- a decisive fault
pub returns-in-Failed : goal.returns-in-Failed
returns-in-Failed g c = now_decided _ _ _ _ _ _ _ _ (accept_goes_on_with _) (accept_goes_on_with _) _ _
    c.loop-taken.invariant (c.try_once.ensures.turn _) (ap is_open c.in-Failed.is) (answers_fault _ _ c.in-Failed.is)
