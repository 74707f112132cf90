use Rattle.std.proofs.Common.{[], ◌∷◌, length, refl, ap, Ok, Err, arith}
use Rattle.std.proofs.lemmas.Bool.Decides.{nat_tests}
use Rattle.base_types.specs.declared.direction.Dir.TheVariants.{Write}
use Rattle.rwloops.specs.Waits.{Prepared}
use Rattle.rwloops.specs.OutcomeTrace.{Refused, is_open}
use Rattle.rwloops.specs.WriteTrace.{Empty, Tried}
use Rattle.rwloops.specs.Turns.{Asked}
use Rattle.rwloops.proofs.TraceLemmas.{tries_on, waits_on, wait_refused, decided, as_trace}
use Rattle.rwloops.proofs.PartialWriteLemmas.{write_goes_on_with, written_below, answers_whole, answers_fault}
use Rattle.rwloops.proofs.PartialWriteLemmas.{answers_refusal, whole_count, part_count}
use Rattle.rwloops.proofs.write_loop.write_in_turn.Goals as goal

-- prepare was refused
pub returns-in-Err-clause-turns : goal.returns-in-Err-clause-turns
returns-in-Err-clause-turns g c = record {
  events = Asked (Prepared Write (Err c.in-Err.refusal)) ∷ [];
  went = c.in-Err.ensures.told _ [] (g.met.P.WriteTurns.went_nowhere _);
  turns = record { order = (refl, tt); ends = tt };
  trace = Tried (Refused c.in-Err.refusal refl refl (ap (λ f. Err (record { fault = f; count = 0 })) c.from.ensures));
}

-- nothing is tried
pub returns-then-is_empty-clause-turns : goal.returns-then-is_empty-clause-turns
returns-then-is_empty-clause-turns g c = record {
  events = Asked (Prepared Write (Ok tt)) ∷ [];
  went = c.in-Ok.ensures.told _ [] (g.met.P.WriteTurns.went_nowhere _);
  turns = record { order = (refl, tt); ends = tt };
  trace = Empty (grind (arith, nat_tests)) refl refl refl;
}

pub loop-init : goal.loop-init
loop-init g c = record {
  tries = [];
  went = c.in-Ok.ensures.told _ [] (g.met.P.WriteTurns.went_nowhere _);
  offered = tt;
  stands = c.new-writing.ensures;
}

-- what is written is within the bytes
pub try_once-requires : goal.try_once-requires
try_once-requires g c = let below = written_below c.loop.writing
    (length c.args.bytes.now) c.loop.invariant.tries c.loop.invariant.stands in omega (arith, below)

-- the loop tries again at once
pub loop-preserved-in-Try : goal.loop-preserved-in-Try
loop-preserved-in-Try g c = tries_on _ _ _ _ _ _ _ _ (write_goes_on_with _ _)
    (write_goes_on_with _ _) c.loop.invariant (c.try_once.ensures.turn _) c.in-Try.is

-- the loop waited, and tries again
pub loop-preserved : goal.loop-preserved
loop-preserved g c =
    waits_on _ _ _ _ _ _ _ _ (write_goes_on_with _ _) (write_goes_on_with _ _) _
    c.loop.invariant (c.try_once.ensures.turn _) (c.in-Ok-wait.ensures.told _) c.in-Wait.is

-- the wait was refused
pub returns-in-Err-wait : goal.returns-in-Err-wait
returns-in-Err-wait g c =
    let traced = as_trace (λ tries calls. Tried)
    (wait_refused _ _ _ _ _ _ _ _ (write_goes_on_with _ _) (write_goes_on_with _ _) _ _
    _ c.in-Err-wait.refusal
    c.loop.invariant (c.try_once.ensures.turn _) (c.in-Err-wait.ensures.told _) c.in-Wait.is
    (answers_refusal c.try_once.new.writing _ _ _ c.from-in-Err-wait.ensures c.count.ensures)) in
    record { turns = traced; whole = tt; part = (part_count _ _ _ _ traced.trace).1 }

-- all is written
pub returns-in-Done : goal.returns-in-Done
returns-in-Done g c =
    let traced = as_trace (λ tries calls. Tried)
    (decided _ _ _ _ _ _ _ _ (write_goes_on_with _ _)
    (write_goes_on_with _ _) _ _ c.loop.invariant (c.try_once.ensures.turn _) (ap is_open c.in-Done.is)
    (answers_whole c.try_once.new.writing _ _ _ c.in-Done.is (c.try_once.ensures.done _ c.in-Done.is))) in
    record { turns = traced; whole = whole_count _ _ _ _ traced.trace; part = tt }

-- a decisive fault
pub returns-in-Failed : goal.returns-in-Failed
returns-in-Failed g c =
    let traced = as_trace (λ tries calls. Tried)
    (decided _ _ _ _ _ _ _ _ (write_goes_on_with _ _)
    (write_goes_on_with _ _) _ _ c.loop.invariant (c.try_once.ensures.turn _) (ap is_open c.in-Failed.is)
    (answers_fault c.try_once.new.writing _ _ _ c.in-Failed.is _ c.count-in-Failed.ensures)) in
    record { turns = traced; whole = tt; part = (part_count _ _ _ _ traced.trace).1 }
