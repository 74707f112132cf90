use Rattle.std.proofs.Common.{[], ◌∷◌, length, refl, sym, ap, arith, Ok}
use Rattle.std.proofs.lemmas.Bool.Decides.{nat_tests}
use Rattle.base_types.specs.declared.direction.Dir.TheVariants.{Write}
use Rattle.deadline_core.specs.declared.refusal.Refusal.TheVariants.{Closed}
use Rattle.rwloops.specs.Waits.{Prepared}
use Rattle.rwloops.specs.OutcomeTrace.{is_open}
use Rattle.rwloops.specs.WriteTrace.{Empty, Tried}
use Rattle.rwloops.proofs.TryNowLemmas.{now_on, now_blocked, now_decided, as_tried, as_no_wait}
use Rattle.rwloops.proofs.PartialWriteLemmas.{write_goes_on_with, written_below, answers_whole, answers_fault}
use Rattle.rwloops.proofs.PartialWriteLemmas.{answers_refusal, whole_count, part_count, refused_part}
use Rattle.rwloops.proofs.tries.write_tries.Goals as goal

-- nothing is tried
pub returns-then-is_empty-clause-tried : goal.returns-then-is_empty-clause-tried
returns-then-is_empty-clause-tried g c = record {
  tries = [];
  went = g.met.P.WriteTurns.went_nowhere _;
  trace = record {
    calls = Prepared Write (Ok tt) ∷ [];
    begun = refl;
    trace = Empty (grind (arith, nat_tests)) refl refl (ap Ok (grind (arith, nat_tests)));
  };
}

-- what is written is within the bytes
pub try_once-requires : goal.try_once-requires
try_once-requires g c = let below = written_below c.loop-writing.writing
    (length c.args.bytes.now) c.loop-writing.invariant.tries c.loop-writing.invariant.stands in omega (arith, below)

-- the loop tries again at once
pub loop-writing-preserved : goal.loop-writing-preserved
loop-writing-preserved g c = now_on _ _ _ _ _ _ _ _ (write_goes_on_with _ _) (write_goes_on_with _ _)
    c.loop-writing.invariant (c.try_once.ensures.turn _) c.in-Try.is

-- a wait would come
pub returns-in-Wait : goal.returns-in-Wait
returns-in-Wait g c =
    let traced = as_tried (λ tries traced refusal. Tried (traced refusal))
    (now_blocked _ _ _ _ _ _ _ _ (write_goes_on_with _ _) (write_goes_on_with _ _) _ _
    c.loop-writing.invariant (c.try_once.ensures.turn _) c.in-Wait.is
    (λ refusal. answers_refusal c.try_once.new.writing _ _ _ refl c.count.ensures)) in
    record { tried = traced; part = refused_part _ _ _ _ _ (traced.trace Closed) }

-- all is written
pub returns-in-Done : goal.returns-in-Done
returns-in-Done g c =
    let traced = as_tried (λ tries. as_no_wait (λ calls. Tried))
    (now_decided _ _ _ _ _ _ _ _ (write_goes_on_with _ _) (write_goes_on_with _ _) _ _
    c.loop-writing.invariant (c.try_once.ensures.turn _) (ap is_open c.in-Done.is)
    (answers_whole c.try_once.new.writing _ _ _ c.in-Done.is (c.try_once.ensures.done _ c.in-Done.is))) in
    let whole = whole_count _ _ _ _ traced.trace.trace in
    record { tried = rw (sym whole) traced; part = tt }

-- a decisive fault
pub returns-in-Failed : goal.returns-in-Failed
returns-in-Failed g c =
    let traced = as_tried (λ tries. as_no_wait (λ calls. Tried))
    (now_decided _ _ _ _ _ _ _ _ (write_goes_on_with _ _) (write_goes_on_with _ _) _ _
    c.loop-writing.invariant (c.try_once.ensures.turn _) (ap is_open c.in-Failed.is)
    (answers_fault c.try_once.new.writing _ _ _ c.in-Failed.is _ c.count-in-Failed.ensures)) in
    record { tried = traced; part = (part_count _ _ _ _ traced.trace.trace).1 }
