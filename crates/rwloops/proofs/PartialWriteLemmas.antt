-- Turns of a write, and the sums of its counts. Lists are newest first.
use Rattle.std.proofs.Common.{◌≡◌, ℕ, zero, suc, ◌+◌, ◌-◌, ◌<◌, ◌≤◌, min, true, ◌&&◌, nat_lt, List, [], ◌∷◌, ◌++◌}
use Rattle.std.proofs.Common.{length, take, drop, map, refl, sym, ap, subst, ◌∙◌, Result, Ok, Err, IsTrue, IsFalse}
use Rattle.std.proofs.Common.{arith, add-zero}
use Rattle.std.specs.List.{list_all}
use Rattle.std.proofs.lemmas.Bool.{and_parts}
use Rattle.std.proofs.lemmas.Bool.Decides.{nat_tests}
use Rattle.std.proofs.lemmas.List.{length-take, map-append, take-take}
use Rattle.std.proofs.Math.Seq.{take-add}
use Rattle.std.proofs.Common.{length-drop}
use Rattle.rwloops.specs.declared.limits.TheConstants.{MAX_TRY_BYTES}
use Rattle.rwloops.specs.declared.fault.Fault.{Fault}
use Rattle.rwloops.specs.declared.fault.WriteFault.{WriteFault}
use Rattle.rwloops.specs.declared.outcome.Outcome.{Outcome}
use Rattle.rwloops.specs.declared.outcome.Outcome.TheVariants.{Count, Interrupted, Aborted, WouldBlock, Broken}
use Rattle.rwloops.specs.declared.retries.Next.{Next}
use Rattle.rwloops.specs.declared.retries.Next.TheVariants.{Done, Failed}
use Rattle.rwloops.specs.declared.write_loop.WriteLoop.{WriteLoop}
use Rattle.rwloops.specs.RetryBound.{has_short_rows}
use Rattle.rwloops.specs.Outcome.{is_interrupted, is_would_block, count_in, sum_of_counts, IsCountWithin}
use Rattle.base_types.specs.declared.direction.Dir.TheVariants.{Write}
use Rattle.rwloops.specs.Waits.{WaitCall, Prepared}
use Rattle.rwloops.specs.OutcomeTrace.{EachTry, Refused, WaitRefused, Decided}
use Rattle.rwloops.specs.WriteTrace.{WriteTry, write_goes_on, write_is_inconclusive, write_decision, write_outcome}
use Rattle.rwloops.specs.WriteTrace.{write_try_rules, count_of, chunk_after, taken_bytes, IsWriteTry, IsOfferedCount}
use Rattle.rwloops.specs.WriteTrace.{WriteAnswers, WriteTrace, Empty, Tried, HasWritten, StandsForTries, written}
use Rattle.rwloops.proofs.TraceLemmas.{GoesOn, no_try_in_none, decisive_is_newest, each_offered}
use Rattle.rwloops.proofs.RetryLemmas.{both, list_all_of_older, short_rows_of_older}

-- a write that waits goes on
blocked_goes_on : (len : ℕ) (outcome : Outcome) (earlier : List Outcome) → IsTrue (is_would_block outcome) →
    IsTrue (write_is_inconclusive len earlier)
    → IsTrue (write_is_inconclusive len (outcome ∷ earlier))
blocked_goes_on len WouldBlock earlier blocks undecided = rw add-zero undecided
blocked_goes_on len (Count count) earlier blocks undecided = cc
blocked_goes_on len Interrupted earlier blocks undecided = cc
blocked_goes_on len Aborted earlier blocks undecided = cc
blocked_goes_on len (Broken kind) earlier blocks undecided = cc

pub write_goes_on_with : (loop : WriteLoop) (len : ℕ) → GoesOn (write_try_rules len) (StandsForTries loop len)
write_goes_on_with loop len = record {
  inconclusive = λ tries stands. stands.inconclusive;
  blocked = λ made earlier blocks undecided. blocked_goes_on len made.outcome
      (map write_outcome earlier) blocks undecided;
}

-- a write that goes on has bytes left
pub sum_below : (len : ℕ) (outcomes : List Outcome) → IsTrue (write_is_inconclusive len outcomes) →
    sum_of_counts outcomes < len
sum_below len outcomes undecided =
    let left : nat_lt (sum_of_counts outcomes) len ≡ true =
    (and_parts _ _ ((and_parts (list_all write_goes_on outcomes) _ undecided).1)).0 in
    grind (arith, nat_tests)

-- a number below another passes the test
pub below_test : (a b : ℕ) → a < b → nat_lt a b ≡ true
below_test a b below = grind (arith, nat_tests)

-- a loop that goes on has written less than the length
pub written_below : (loop : WriteLoop) (len : ℕ) (tries : List WriteTry) → StandsForTries loop len tries →
    written loop < len
written_below loop len tries stands = let below = sum_below len (map write_outcome tries) stands.inconclusive in
    omega (arith, stands.count, below)

-- the length of what is offered
pub length-chunk_after : (bytes : List ℕ) (done : ℕ) → length (chunk_after bytes done) ≡ min
    (length bytes - done) MAX_TRY_BYTES
length-chunk_after bytes done = simp (length-take, length-drop) (omega arith)

-- a count within what was offered is one that the loop takes
pub offered_count : (bytes : List ℕ) (done : ℕ) (earlier : List WriteTry) (outcome : Outcome) →
    done ≡ count_of earlier → IsCountWithin (length (chunk_after bytes done)) outcome
    → IsOfferedCount (length bytes) (map write_outcome earlier) outcome
offered_count bytes done earlier outcome same within =
    let long = length-chunk_after bytes done in
    omega (arith, long, same, within)

-- all bytes are the answer
pub answers_whole : (loop : WriteLoop) (len count : ℕ) (next : Next ℕ) → next ≡ Done count → written loop ≡ count →
    (made : WriteTry) (earlier : List WriteTry) → HasWritten loop made earlier
    → next ≡ write_decision len made.outcome → WriteAnswers (write_decision len made.outcome) (made ∷ earlier)
    (Ok count)
answers_whole loop len count next is all made earlier has_written decided =
    subst (λ n. WriteAnswers n (made ∷ earlier) (Ok count)) (sym is ∙ decided) (refl, sym has_written ∙ all)

-- a fault that is answered is the decision's, with what the loop has written
pub answers_fault : (loop : WriteLoop) (len : ℕ) (next : Next ℕ) (fault : Fault) → next ≡ Failed fault → (count : ℕ) →
    count ≡ written loop → (made : WriteTry) (earlier : List WriteTry)
    → HasWritten loop made earlier → next ≡ write_decision len made.outcome →
    WriteAnswers (write_decision len made.outcome) (made ∷ earlier) (Err (record { fault = fault; count = count }))
answers_fault loop len next fault is count counted made earlier has_written decided =
    subst (λ n. WriteAnswers n (made ∷ earlier) (Err (record { fault = fault; count = count }))) (sym is ∙ decided)
    (ap (λ n. Err (record { fault = fault; count = n })) (counted ∙ has_written))

-- a refusal that is answered comes with what the loop has written
pub answers_refusal : (loop : WriteLoop) (fault given : Fault) (count : ℕ) → given ≡ fault → count ≡ written loop →
    (made : WriteTry) (earlier : List WriteTry)
    → HasWritten loop made earlier → WriteAnswers (Failed fault) (made ∷ earlier)
    (Err (record { fault = given; count = count }))
answers_refusal loop fault given count same counted made earlier has_written =
    cc (same, counted, has_written)

-- a decision that answers a count answers the length
decided_whole : (len : ℕ) (tries : List WriteTry) (outcome : Outcome) (count : ℕ) →
    WriteAnswers (write_decision len outcome) tries (Ok count) → count ≡ len
decided_whole len tries (Count zero) count answer = cc
decided_whole len tries (Count (suc more)) count answer = cc (answer.0)
decided_whole len tries Interrupted count answer = cc
decided_whole len tries Aborted count answer = cc
decided_whole len tries WouldBlock count answer = absurd answer
decided_whole len tries (Broken kind) count answer = cc

-- a count that a write answers is the length
pub whole_count : (bytes : List ℕ) (tries : List WriteTry) (calls : List WaitCall) (count : ℕ) →
    WriteTrace bytes tries calls (Ok count) → count ≡ length bytes
whole_count bytes tries calls count (Empty none no_tries asked answer) = cc
whole_count bytes tries calls count (Tried (Refused refusal no_tries asked answer)) = cc
whole_count bytes tries calls count (Tried (WaitRefused refusal newest earlier are blocks undecided offered asked
    answer)) = cc
whole_count bytes tries calls count (Tried (Decided newest earlier are undecided decisive offered asked answer)) =
    decided_whole (length bytes) tries newest.outcome count answer

-- a decision that answers a fault answers the sum of the counts, which its own try adds nothing to
decided_part : (len : ℕ) (tries : List WriteTry) (outcome : Outcome) (failed : WriteFault) →
    WriteAnswers (write_decision len outcome) tries (Err failed)
    → (failed.count ≡ count_of tries) × (count_in outcome ≡ 0)
decided_part len tries (Count zero) failed answer = (cc, refl)
decided_part len tries (Count (suc more)) failed answer = cc (answer.0)
decided_part len tries Interrupted failed answer = (cc, refl)
decided_part len tries Aborted failed answer = (cc, refl)
decided_part len tries WouldBlock failed answer = absurd answer
decided_part len tries (Broken kind) failed answer = (cc, refl)

-- a count with a fault is the sum of the counts, and at most the length
pub part_count : (bytes : List ℕ) (tries : List WriteTry) (calls : List WaitCall) (failed : WriteFault) →
    WriteTrace bytes tries calls (Err failed)
    → (failed.count ≡ count_of tries) × (failed.count ≤ length bytes)
part_count bytes tries calls failed (Empty none no_tries asked answer) = cc
part_count bytes tries calls failed (Tried (Refused refusal no_tries asked answer)) =
    let sum : failed.count ≡ count_of tries = cc (answer) in
    let nothing : count_of tries ≡ 0 = ap count_of no_tries in
    (sum, omega (arith, sum, nothing))
part_count bytes tries calls failed (Tried (WaitRefused refusal newest earlier are blocks undecided offered asked
    answer)) =
    let sum : failed.count ≡ count_of tries = cc (answer) in
    let below = sum_below (length bytes) (map write_outcome tries) undecided in
    (sum, omega (arith, sum, below))
part_count bytes tries calls failed (Tried (Decided newest earlier are undecided decisive offered asked answer)) =
    let sum = decided_part (length bytes) tries newest.outcome failed answer in
    let below = sum_below (length bytes) (map write_outcome earlier) undecided in
    let all : count_of tries ≡ count_of earlier + count_in newest.outcome = ap count_of are in
    (sum.0, omega (arith, sum.0, sum.1, below, all))

-- a write that is refused a wait has written less than the whole
pub refused_part : (bytes : List ℕ) (tries : List WriteTry) (asked : WaitCall) (calls : List WaitCall)
    (failed : WriteFault) → WriteTrace bytes tries (asked ∷ (Prepared Write (Ok tt) ∷ calls)) (Err failed)
    → failed.count < length bytes
refused_part bytes tries asked calls failed (Empty none no_tries are answer) = cc
refused_part bytes tries asked calls failed (Tried (Refused refusal no_tries are answer)) = cc
refused_part bytes tries asked calls failed (Tried (WaitRefused refusal newest earlier are blocks undecided offered
    asks answer)) =
    let sum : failed.count ≡ count_of tries = cc (answer) in
    let below = sum_below (length bytes) (map write_outcome tries) undecided in
    omega (arith, sum, below)
refused_part bytes tries asked calls failed (Tried (Decided newest earlier are undecided decisive offered asks
    answer)) =
    let sum = decided_part (length bytes) tries newest.outcome failed answer in
    let below = sum_below (length bytes) (map write_outcome earlier) undecided in
    let all : count_of tries ≡ count_of earlier + count_in newest.outcome = ap count_of are in
    omega (arith, sum.0, sum.1, below, all)

-- older outcomes of a write that goes on sum to no more
sum_of_older : (newer older : List Outcome) → sum_of_counts older ≤ sum_of_counts (newer ++ older)
sum_of_older [] older = omega arith
sum_of_older (outcome ∷ newer) older = let more = sum_of_older newer older in omega (arith, more)

-- older outcomes of a write that goes on are inconclusive too
older_is_inconclusive : (len : ℕ) (newer older : List Outcome) → IsTrue (write_is_inconclusive len (newer ++ older)) →
    IsTrue (write_is_inconclusive len older)
older_is_inconclusive len newer older undecided =
    let parts = and_parts (list_all write_goes_on (newer ++ older))
    (nat_lt (sum_of_counts (newer ++ older)) len && has_short_rows is_interrupted (newer ++ older)) undecided in
    let rows = and_parts (nat_lt (sum_of_counts (newer ++ older)) len)
    (has_short_rows is_interrupted (newer ++ older)) parts.1 in
    let below = sum_below len (newer ++ older) undecided in
    let less = sum_of_older newer older in
    both _ _ (list_all_of_older write_goes_on newer older parts.0)
    (both _ _ (below_test (sum_of_counts older) len (omega (arith, below, less)))
    (short_rows_of_older is_interrupted newer older rows.1))

-- a decisive try is a write's newest
pub write_decisive_is_newest : (bytes : List ℕ) (tries : List WriteTry) (calls : List WaitCall)
    (result : Result ℕ WriteFault) (newer older : List WriteTry) (made : WriteTry)
    → WriteTrace bytes tries calls result → tries ≡ newer ++ (made ∷ older) →
    IsFalse (write_is_inconclusive (length bytes) (map write_outcome (made ∷ older))) → newer ≡ []
write_decisive_is_newest bytes tries calls result newer older made (Empty none no_tries asked answer) is decisive =
    absurd (no_try_in_none newer older made (sym no_tries ∙ is))
write_decisive_is_newest bytes tries calls result newer older made (Tried trace) is decisive =
    decisive_is_newest (write_try_rules (length bytes)) _ _ tries calls result
    (λ n o undecided. older_is_inconclusive (length bytes) (map write_outcome n) (map write_outcome o)
    (subst (λ os. IsTrue (write_is_inconclusive (length bytes) os)) (map-append write_outcome n o) undecided))
    newer older made trace is decisive

-- each try of a write was offered the bytes after the counts before it
pub each_write_offered : (bytes : List ℕ) (tries : List WriteTry) (calls : List WaitCall)
    (result : Result ℕ WriteFault) → WriteTrace bytes tries calls result → EachTry (IsWriteTry bytes) tries
each_write_offered bytes tries calls result (Empty none no_tries asked answer) =
    subst (EachTry (IsWriteTry bytes)) (sym no_tries) tt
each_write_offered bytes tries calls result (Tried trace) =
    each_offered (write_try_rules (length bytes)) _ _ tries calls result trace

-- a try's count is within what was left
count_within_left : (bytes : List ℕ) (made : WriteTry) (earlier : List WriteTry) → IsWriteTry bytes made earlier →
    count_in made.outcome ≤ min (length bytes - count_of earlier) MAX_TRY_BYTES
count_within_left bytes made earlier offered =
    let long = length-chunk_after bytes (count_of earlier) in
    let same : length made.offered ≡ length (chunk_after bytes (count_of earlier)) = ap length offered.offered in
    let within : count_in made.outcome ≤ length made.offered = offered.count in
    omega (arith, long, same, within)

-- the counts sum to no more than the bytes
pub sum_within : (bytes : List ℕ) (tries : List WriteTry) → EachTry (IsWriteTry bytes) tries →
    count_of tries ≤ length bytes
sum_within bytes [] each = omega arith
sum_within bytes (made ∷ earlier) each =
    let before = sum_within bytes earlier each.1 in
    let here = count_within_left bytes made earlier each.0 in
    omega (arith, before, here)

-- the bytes that were counted are the first ones
pub taken_are_first : (bytes : List ℕ) (tries : List WriteTry) → EachTry (IsWriteTry bytes) tries →
    taken_bytes tries ≡ take (count_of tries) bytes
taken_are_first bytes [] each = refl
taken_are_first bytes (made ∷ earlier) each =
    let before = taken_are_first bytes earlier each.1 in
    let within : count_in made.outcome ≤ min (length bytes - count_of earlier) MAX_TRY_BYTES =
    count_within_left bytes made earlier each.0 in
    let here : take (count_in made.outcome) made.offered ≡
    take (count_in made.outcome) (drop (count_of earlier) bytes) =
    ap (take (count_in made.outcome)) each.0.offered ∙
    take-take (count_in made.outcome) _ (drop (count_of earlier) bytes) within in
    ap (λ front. front ++ take (count_in made.outcome) made.offered) before ∙
    ap (λ more. take (count_of earlier) bytes ++ more) here
    ∙ sym (take-add (count_of earlier) (count_in made.outcome) bytes)

-- older tries counted no more than the newer ones begin at
pub later_begins_after : (between older : List WriteTry) (made : WriteTry) → count_of older + count_in
    made.outcome ≤ count_of (between ++ (made ∷ older))
later_begins_after [] older made = omega arith
later_begins_after (next ∷ between) older made = let more = later_begins_after between older made in omega (arith, more)
