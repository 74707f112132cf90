use Rattle.std.proofs.Common.{[], refl, ap, arith, rules}
use Rattle.std.proofs.lemmas.Bool.Decides.{nat_tests}
use Rattle.rwloops.specs.OutcomeTrace.{is_open}
use Rattle.rwloops.specs.ReadTrace.{Empty}
use Rattle.rwloops.proofs.TryNowLemmas.{now_on, now_blocked, now_decided, as_tried, as_no_wait, now_at_length}
use Rattle.rwloops.proofs.ReadLemmas.{read_goes_on_with, answers_count, answers_fault, has_tried, count_bounds}
use Rattle.rwloops.proofs.tries.read_tries.Goals as goal

-- nothing was tried
pub returns-then-is_empty-clause-tried : goal.returns-then-is_empty-clause-tried
returns-then-is_empty-clause-tried g c = record {
  tries = [];
  went = g.met.P.ReadTurns.went_nowhere _;
  trace = record { calls = []; begun = refl; trace = Empty (grind (arith, nat_tests)) refl refl refl };
}

-- the loop tries again at once
pub loop-count-preserved : goal.loop-count-preserved
loop-count-preserved g c = record {
  some = omega arith;
  so_far = now_at_length _ _ c.try_once.auto.buf
      (now_on _ _ _ _ _ _ _ _ (read_goes_on_with _)
      (read_goes_on_with _) c.loop-count.invariant.so_far (c.try_once.ensures.turn _) c.in-Try.is);
}

-- a wait would come
pub returns-in-Wait-clause-tried : goal.returns-in-Wait-clause-tried
returns-in-Wait-clause-tried g c = as_tried
    (λ tries traced refusal. has_tried _ _ c.loop-count.invariant.some c.try_once.auto.buf _ _ _ (traced refusal))
    (now_blocked _ _ _ _ _ _ _ _ (read_goes_on_with _) (read_goes_on_with _) _ _
    c.loop-count.invariant.so_far (c.try_once.ensures.turn _) c.in-Wait.is (λ refusal made earlier has_read. refl))

-- a decisive count
pub returns-in-Done : goal.returns-in-Done
returns-in-Done g c =
    let traced = as_tried (λ tries. as_no_wait (has_tried _ _ c.loop-count.invariant.some c.try_once.auto.buf _ tries))
    (now_decided _ _ _ _ _ _ _ _ (read_goes_on_with _) (read_goes_on_with _) _ _
    c.loop-count.invariant.so_far (c.try_once.ensures.turn _) (ap is_open c.in-Done.is)
    (answers_count _ _ _ c.in-Done.is)) in
    let bounds = count_bounds _ _ _ _ traced.trace.trace
    (omega (arith, c.loop-count.invariant.some, c.try_once.auto.buf)) in
    record { tried = traced; empty = search rules; some = λ _. bounds.0; within = omega (arith, bounds.1) }

-- a decisive fault
pub returns-in-Failed-clause-tried : goal.returns-in-Failed-clause-tried
returns-in-Failed-clause-tried g c = as_tried
    (λ tries. as_no_wait (has_tried _ _ c.loop-count.invariant.some c.try_once.auto.buf _ tries))
    (now_decided _ _ _ _ _ _ _ _ (read_goes_on_with _) (read_goes_on_with _) _ _
    c.loop-count.invariant.so_far (c.try_once.ensures.turn _) (ap is_open c.in-Failed.is)
    (answers_fault _ _ _ c.in-Failed.is))
