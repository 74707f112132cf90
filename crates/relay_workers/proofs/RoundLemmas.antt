-- The rounds of a worker so far, and how its last calls end them.
use Rattle.std.proofs.Common.{◌≡◌, ◌∙◌, ◌+◌, ℕ, List, [], ◌∷◌, ◌++◌, length, refl, sym, ap, Ok, Err}
use Rattle.std.proofs.Common.{append_assoc, append-nil, arith}
use Rattle.rwloops.specs.Waits.{Tells}
use Rattle.rwloops.specs.declared.fault.Fault.{Fault}
use Rattle.rwloops.specs.declared.fault.Fault.TheVariants.{EndOfFile}
use Rattle.relay_core.specs.declared.copying.Ended.{Ended}
use Rattle.relay_core.specs.declared.copying.Ended.TheVariants.{Eof, CloseFault}
use Rattle.relay_core.specs.CopyTrace.{GateCall, Read, Wrote, ClosedWrite, written, uncredited}
use Rattle.relay_workers.specs.CopyTrace.{round_calls, EndsBy, AtEnd, AtClose, IsCopied, IsCopiedSoFar}

-- one round that went well
pub one_round : {before now : List GateCall → Type 0} {old new : ℕ} (bytes : List ℕ)
    → Tells before now (Wrote bytes (Ok (length bytes)) ∷ Read (Ok bytes) ∷ [])
    → new ≡ old + length bytes → IsCopiedSoFar before now old new
one_round bytes told grew = record {
  rounds = bytes ∷ [];
  told = told;
  grew = omega (arith, grew);
}

-- the calls of rounds, of which some came later
rounds_append : (later earlier : List (List ℕ))
    → round_calls (later ++ earlier) ≡ round_calls later ++ round_calls earlier
rounds_append [] earlier = refl
rounds_append (bytes ∷ later) earlier =
    ap (λ calls. Wrote bytes (Ok (length bytes)) ∷ Read (Ok bytes) ∷ calls) (rounds_append later earlier)

-- what was written by calls, of which some came later
written_append : (later earlier : List GateCall) → written (later ++ earlier) ≡ written earlier + written later
written_append [] earlier = omega (arith)
written_append (call ∷ later) earlier = let before = written_append later earlier in omega (arith, before)

-- rounds, and then more rounds
pub more_rounds : {before now after : List GateCall → Type 0} {old share new : ℕ}
    → IsCopiedSoFar before now old share → IsCopiedSoFar now after share new
    → IsCopiedSoFar before after old new
more_rounds so more = record {
  rounds = more.rounds ++ so.rounds;
  told = λ calls h. rw (rounds_append more.rounds so.rounds)
      (rw (append_assoc (round_calls more.rounds) (round_calls so.rounds) calls)
      (more.told _ (so.told calls h)));
  grew = let sum = written_append (round_calls more.rounds) (round_calls so.rounds) in
      omega (arith, so.grew, more.grew, sum, ap written (rounds_append more.rounds so.rounds));
}

-- rounds, and then a run to its end
pub run_after : {before now after : List GateCall → Type 0} {old share new : ℕ} {ended : Ended}
    → IsCopiedSoFar before now old share → IsCopied now after share new ended
    → IsCopied before after old new ended
run_after so run = record {
  calls = run.calls ++ round_calls so.rounds;
  trace = record {
    rounds = run.trace.rounds ++ so.rounds;
    last = run.trace.last;
    in_order = ap (λ calls. calls ++ round_calls so.rounds) run.trace.in_order
        ∙ append_assoc run.trace.last (round_calls run.trace.rounds) (round_calls so.rounds)
        ∙ ap (λ calls. run.trace.last ++ calls) (sym (rounds_append run.trace.rounds so.rounds));
    ends = run.trace.ends;
  };
  told = λ calls h. rw (append_assoc run.calls (round_calls so.rounds) calls) (run.told _ (so.told calls h));
  grew = let sum = written_append run.calls (round_calls so.rounds) in
      omega (arith, so.grew, run.grew, sum);
}

-- these calls alone are a run
pub ends_with : {before after : List GateCall → Type 0} {old new : ℕ} {ended : Ended}
    → (last : List GateCall) → Tells before after last → EndsBy last ended
    → new + uncredited ended ≡ old + written last → IsCopied before after old new ended
ends_with last told ends grew = record {
  calls = last;
  trace = record { rounds = []; last = last; in_order = sym (append-nil last); ends = ends };
  told = told;
  grew = grew;
}

-- the end of the reader, which the writer was told
pub at_end : (done : Unit {0}) (fault : Fault) → fault ≡ EndOfFile
    → EndsBy (ClosedWrite (Ok done) ∷ Read (Err fault) ∷ []) Eof
at_end done fault is = rw is AtEnd

-- the end of the reader, which the writer couldn't be told
pub at_close : (refused fault : Fault) → fault ≡ EndOfFile
    → EndsBy (ClosedWrite (Err refused) ∷ Read (Err fault) ∷ []) (CloseFault refused)
at_close refused fault is = rw is (AtClose refused)
