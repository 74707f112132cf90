use Rattle.std.proofs.Common.{[], ◌∷◌, refl, ap, Err}
use Rattle.base_types.specs.declared.direction.Dir.TheVariants.{Read}
use Rattle.rwloops.specs.Waits.{Prepared}
use Rattle.rwloops.specs.Turns.{Asked}
use Rattle.rwloops.specs.OutcomeTrace.{Refused, is_open}
use Rattle.rwloops.proofs.TraceLemmas.{tries_on, waits_on, wait_refused, decided}
use Rattle.rwloops.proofs.AcceptLemmas.{accept_goes_on_with, answers_taken, answers_fault}
use Rattle.rwloops.proofs.accept_loop.accept_in_turn.Goals as goal

-- prepare was refused
pub returns-in-Err : goal.returns-in-Err
returns-in-Err g c = record {
  turns = record {
    events = Asked (Prepared Read (Err c.in-Err.refused)) ∷ [];
    went = c.in-Err.ensures.told _ [] (g.met.P.AcceptTurns.went_nowhere _);
    turns = record { order = (refl, tt); ends = tt };
    trace = Refused c.in-Err.refused refl refl (ap Err c.from.ensures);
  };
}

-- prepare was granted
pub loop-init : goal.loop-init
loop-init g c = record {
  tries = [];
  went = c.in-Ok.ensures.told _ [] (g.met.P.AcceptTurns.went_nowhere _);
  offered = tt;
  stands = c.new-accepting.ensures;
}

-- the loop tries again at once
pub loop-preserved-in-Try : goal.loop-preserved-in-Try
loop-preserved-in-Try g c = tries_on _ _ _ _ _ _ _ _ (accept_goes_on_with _)
    (accept_goes_on_with _) c.loop.invariant (c.try_once.ensures.turn _) c.in-Try.is

-- the loop waited, and tries again
pub loop-preserved : goal.loop-preserved
loop-preserved g c =
    waits_on _ _ _ _ _ _ _ _ (accept_goes_on_with _) (accept_goes_on_with _) _
    c.loop.invariant (c.try_once.ensures.turn _) (c.in-Ok-wait.ensures.told _) c.in-Wait.is

-- the wait was refused
pub returns-in-Err-wait : goal.returns-in-Err-wait
returns-in-Err-wait g c = record {
  turns = wait_refused _ _ _ _ _ _ _ _ (accept_goes_on_with _) (accept_goes_on_with _) _ _
      _ c.in-Err-wait.refusal
      c.loop.invariant (c.try_once.ensures.turn _) (c.in-Err-wait.ensures.told _) c.in-Wait.is
      (λ made earlier none. ap Err c.from-in-Err-wait.ensures);
}

-- a connection was taken
pub returns-in-Done : goal.returns-in-Done
returns-in-Done g c = record {
  turns = decided _ _ _ _ _ _ _ _ (accept_goes_on_with _)
      (accept_goes_on_with _) _ _ c.loop.invariant (c.try_once.ensures.turn _) (ap is_open c.in-Done.is)
      (answers_taken _ _ c.in-Done.is);
}

-- a decisive fault
pub returns-in-Failed : goal.returns-in-Failed
returns-in-Failed g c = record {
  turns = decided _ _ _ _ _ _ _ _ (accept_goes_on_with _)
      (accept_goes_on_with _) _ _ c.loop.invariant (c.try_once.ensures.turn _) (ap is_open c.in-Failed.is)
      (answers_fault _ _ c.in-Failed.is);
}
