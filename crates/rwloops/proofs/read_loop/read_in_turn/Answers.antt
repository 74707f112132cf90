use Rattle.std.proofs.Common.{[], ◌∷◌, refl, ap, Err, arith, rules}
use Rattle.std.proofs.lemmas.Bool.Decides.{nat_tests}
use Rattle.base_types.specs.declared.direction.Dir.TheVariants.{Read}
use Rattle.rwloops.specs.Waits.{Prepared}
use Rattle.rwloops.specs.OutcomeTrace.{Refused, is_open}
use Rattle.rwloops.specs.ReadTrace.{Empty, Tried}
use Rattle.rwloops.specs.Turns.{Asked}
use Rattle.rwloops.proofs.TraceLemmas.{tries_on, waits_on, wait_refused, decided, as_trace}
use Rattle.rwloops.proofs.ReadLemmas.{read_goes_on_with, answers_count, answers_fault, has_tried, at_length}
use Rattle.rwloops.proofs.ReadLemmas.{count_bounds}
use Rattle.rwloops.proofs.read_loop.read_in_turn.Goals as goal

-- nothing was asked and nothing was tried
pub returns-then-is_empty-clause-turns : goal.returns-then-is_empty-clause-turns
returns-then-is_empty-clause-turns g c = record {
  events = [];
  went = g.met.P.ReadTurns.went_nowhere _;
  turns = record { order = tt; ends = tt };
  trace = Empty (grind (arith, nat_tests)) refl refl refl;
}

-- prepare was asked, and refused
pub returns-in-Err-clause-turns : goal.returns-in-Err-clause-turns
returns-in-Err-clause-turns g c = record {
  events = Asked (Prepared Read (Err c.in-Err.refused)) ∷ [];
  went = c.in-Err.ensures.told _ [] (g.met.P.ReadTurns.went_nowhere _);
  turns = record { order = (refl, tt); ends = tt };
  trace = Tried (grind (arith, nat_tests)) (Refused c.in-Err.refused refl refl (ap Err c.from.ensures));
}

pub loop-init : goal.loop-init
loop-init g c = record {
  some = grind (arith, nat_tests);
  so_far = record {
    tries = [];
    went = c.in-Ok.ensures.told _ [] (g.met.P.ReadTurns.went_nowhere _);
    offered = tt;
    stands = c.new-reading.ensures;
  };
}

-- the loop tries again at once
pub loop-preserved-in-Try : goal.loop-preserved-in-Try
loop-preserved-in-Try g c = record {
  some = omega arith;
  so_far = at_length _ _ c.try_once.auto.buf
      (tries_on _ _ _ _ _ _ _ _ (read_goes_on_with _)
      (read_goes_on_with _) c.loop.invariant.so_far (c.try_once.ensures.turn _) c.in-Try.is);
}

-- the loop waited, and tries again
pub loop-preserved : goal.loop-preserved
loop-preserved g c = record {
  some = omega arith;
  so_far = at_length _ _ c.try_once.auto.buf
      (waits_on _ _ _ _ _ _ _ _ (read_goes_on_with _) (read_goes_on_with _) _
      c.loop.invariant.so_far (c.try_once.ensures.turn _) (c.in-Ok-wait.ensures.told _) c.in-Wait.is);
}

-- the wait was refused
pub returns-in-Err-wait-clause-turns : goal.returns-in-Err-wait-clause-turns
returns-in-Err-wait-clause-turns g c = as_trace (has_tried _ _ c.loop.invariant.some c.try_once.auto.buf _)
    (wait_refused _ _ _ _ _ _ _ _ (read_goes_on_with _) (read_goes_on_with _) _ _
    _ c.in-Err-wait.refusal
    c.loop.invariant.so_far (c.try_once.ensures.turn _) (c.in-Err-wait.ensures.told _) c.in-Wait.is
    (λ made earlier has_read. ap Err c.from-in-Err-wait.ensures))

-- a decisive count
pub returns-in-Done : goal.returns-in-Done
returns-in-Done g c =
    let traced = as_trace (has_tried _ _ c.loop.invariant.some c.try_once.auto.buf _)
    (decided _ _ _ _ _ _ _ _ (read_goes_on_with _)
    (read_goes_on_with _) _ _ c.loop.invariant.so_far (c.try_once.ensures.turn _) (ap is_open c.in-Done.is)
    (answers_count _ _ _ c.in-Done.is)) in
    let bounds = count_bounds _ _ _ _ traced.trace (omega (arith, c.loop.invariant.some, c.try_once.auto.buf)) in
    record { turns = traced; empty = search rules; some = λ _. bounds.0; within = omega (arith, bounds.1) }

-- a decisive fault
pub returns-in-Failed-clause-turns : goal.returns-in-Failed-clause-turns
returns-in-Failed-clause-turns g c = as_trace (has_tried _ _ c.loop.invariant.some c.try_once.auto.buf _)
    (decided _ _ _ _ _ _ _ _ (read_goes_on_with _)
    (read_goes_on_with _) _ _ c.loop.invariant.so_far (c.try_once.ensures.turn _) (ap is_open c.in-Failed.is)
    (answers_fault _ _ _ c.in-Failed.is))
