-- Turns of a read. Lists are newest first.
use Rattle.std.proofs.Common.{◌≡◌, ℕ, zero, suc, ◌<◌, ◌≤◌, min, List, [], ◌∷◌, ◌++◌, length, map, take, refl, sym, ap}
use Rattle.std.proofs.Common.{subst, ◌∙◌, Result, Ok, Err, IsTrue, IsFalse, arith}
use Rattle.std.specs.List.{list_all}
use Rattle.std.proofs.lemmas.Bool.{and_parts}
use Rattle.std.proofs.lemmas.List.{map-append}
use Rattle.rwloops.specs.RetryBound.{has_short_rows}
use Rattle.rwloops.specs.declared.fault.Fault.{Fault}
use Rattle.rwloops.specs.declared.outcome.Outcome.{Outcome}
use Rattle.rwloops.specs.declared.outcome.Outcome.TheVariants.{Count, Interrupted, Aborted, WouldBlock, Broken}
use Rattle.rwloops.specs.declared.retries.Next.{Next}
use Rattle.rwloops.specs.declared.retries.Next.TheVariants.{Done, Failed}
use Rattle.rwloops.specs.declared.read_loop.ReadLoop.{ReadLoop}
use Rattle.rwloops.specs.Outcome.{is_interrupted, is_would_block, count_in}
use Rattle.rwloops.specs.Waits.{WaitCall}
use Rattle.rwloops.specs.OutcomeTrace.{OutcomeTrace, Refused, WaitRefused, Decided, EachTry}
use Rattle.rwloops.specs.declared.limits.TheConstants.{MAX_TRY_BYTES}
use Rattle.std.proofs.Math.Nat.{min-le_left}
use Rattle.rwloops.specs.ReadTrace.{ReadTry, read_goes_on, read_is_inconclusive, read_decision, read_outcome}
use Rattle.rwloops.specs.ReadTrace.{read_try_rules, IsReadTry, ReadAnswers, ReadTrace, Empty, Tried, HasRead}
use Rattle.rwloops.specs.ReadTrace.{StandsForTries}
use Rattle.rwloops.specs.Turns.{Event}
use Rattle.rwloops.proofs.TraceLemmas.{GoesOn, IsSoFar, no_try_in_none, decisive_is_newest}
use Rattle.rwloops.proofs.RetryLemmas.{both, list_all_of_older, short_rows_of_older}

-- a read that waits goes on
blocked_goes_on : (outcome : Outcome) (earlier : List Outcome) → IsTrue (is_would_block outcome) →
    IsTrue (read_is_inconclusive earlier) → IsTrue (read_is_inconclusive (outcome ∷ earlier))
blocked_goes_on WouldBlock earlier blocks undecided = undecided
blocked_goes_on (Count count) earlier blocks undecided = cc
blocked_goes_on Interrupted earlier blocks undecided = cc
blocked_goes_on Aborted earlier blocks undecided = cc
blocked_goes_on (Broken kind) earlier blocks undecided = cc

pub read_goes_on_with : (loop : ReadLoop) → GoesOn read_try_rules (StandsForTries loop)
read_goes_on_with loop = record {
  inconclusive = λ tries stands. stands.inconclusive;
  blocked = λ made earlier blocks undecided. blocked_goes_on made.outcome (map read_outcome earlier) blocks undecided;
}

-- a read that ends with a count ends with that of its newest outcome
done_count : (outcome : Outcome) (count : ℕ) → Done count ≡ read_decision outcome → count ≡ count_in outcome
done_count (Count zero) count is = cc
done_count (Count (suc more)) count is = cc
done_count Interrupted count is = cc
done_count Aborted count is = cc
done_count WouldBlock count is = cc
done_count (Broken kind) count is = cc

-- a count that is answered comes with its bytes
pub answers_count : (buffer : List ℕ) (next : Next ℕ) (count : ℕ) → next ≡ Done count →
    (made : ReadTry) (earlier : List ReadTry) → HasRead buffer made earlier
    → next ≡ read_decision made.outcome → ReadAnswers buffer (read_decision made.outcome) (made ∷ earlier) (Ok count)
answers_count buffer next count is made earlier has_read decided =
    let done : Done count ≡ read_decision made.outcome = sym is ∙ decided in
    subst (λ n. ReadAnswers buffer n (made ∷ earlier) (Ok count)) done
    (refl, ap (λ n. take n buffer) (done_count made.outcome count done) ∙ has_read)

-- a fault that is answered is the decision's
pub answers_fault : (buffer : List ℕ) (next : Next ℕ) (fault : Fault) → next ≡ Failed fault →
    (made : ReadTry) (earlier : List ReadTry) → HasRead buffer made earlier
    → next ≡ read_decision made.outcome → ReadAnswers buffer (read_decision made.outcome) (made ∷ earlier) (Err fault)
answers_fault buffer next fault is made earlier has_read decided =
    subst (λ n. ReadAnswers buffer n (made ∷ earlier) (Err fault)) (sym is ∙ decided) refl

-- a trace over a buffer with room is a read's, at any list of the buffer's length
pub has_tried : (buffer : List ℕ) (len : ℕ) → 0 < len → length buffer ≡ len →
    (result : Result ℕ Fault) (tries : List ReadTry) (calls : List WaitCall)
    → OutcomeTrace read_try_rules (IsReadTry len) (ReadAnswers buffer) tries calls result →
    ReadTrace buffer tries calls result
has_tried buffer len some same result tries calls trace =
    Tried (omega (arith, same, some)) (subst (λ n. OutcomeTrace read_try_rules (IsReadTry n)
    (ReadAnswers buffer) tries calls result) (sym same) trace)

-- what holds at one buffer holds at another of the same length
pub at_length : {Went : List (Event ReadTry) → Type 0} {StandsFor : List ReadTry → Type 0}
    (len len' : ℕ) → len' ≡ len
    → IsSoFar read_try_rules (IsReadTry len) Went StandsFor → IsSoFar read_try_rules (IsReadTry len') Went StandsFor
at_length {Went = Went} {StandsFor = StandsFor} len len' same s =
    subst (λ n. IsSoFar read_try_rules (IsReadTry n) Went StandsFor) (sym same) s

-- a decision that answers a count is a count above 0
decided_count : (buffer : List ℕ) (tries : List ReadTry) (outcome : Outcome) (count : ℕ) →
    ReadAnswers buffer (read_decision outcome) tries (Ok count) → (0 < count) × (count ≡ count_in outcome)
decided_count buffer tries (Count zero) count answer = cc
decided_count buffer tries (Count (suc more)) count answer = let same : count ≡ suc more = cc (answer.0) in
    (omega (arith, same), same)
decided_count buffer tries Interrupted count answer = cc
decided_count buffer tries Aborted count answer = cc
decided_count buffer tries WouldBlock count answer = absurd answer
decided_count buffer tries (Broken kind) count answer = cc

-- a count that a read answers is above 0 and at most the buffer's length
pub count_bounds : (buffer : List ℕ) (tries : List ReadTry) (calls : List WaitCall) (count : ℕ) →
    ReadTrace buffer tries calls (Ok count) → 0 < length buffer
    → (0 < count) × (count ≤ length buffer)
count_bounds buffer tries calls count (Empty none no_tries no_calls answer) some = absurd (omega (arith, none, some))
count_bounds buffer tries calls count (Tried room (Refused refusal no_tries asked answer)) some = cc
count_bounds buffer tries calls count (Tried room
    (WaitRefused refusal newest earlier are blocks undecided offered asked answer)) some = cc
count_bounds buffer tries calls count (Tried room (Decided newest earlier are undecided decisive offered asked answer))
    some =
    let bounds = decided_count buffer tries newest.outcome count answer in
    let newest_offered : EachTry (IsReadTry (length buffer)) (newest ∷ earlier) =
    subst (EachTry (IsReadTry (length buffer))) are offered in
    let room_in : newest.room ≡ min (length buffer) MAX_TRY_BYTES = newest_offered.0.room in
    let count_in_room : count_in newest.outcome ≤ newest.room = newest_offered.0.count in
    let below = min-le_left (length buffer) MAX_TRY_BYTES in
    (bounds.0, omega (arith, bounds.1, room_in, count_in_room, below))

-- older outcomes of a read that goes on are inconclusive too
older_is_inconclusive : (newer older : List Outcome) → IsTrue (read_is_inconclusive (newer ++ older)) →
    IsTrue (read_is_inconclusive older)
older_is_inconclusive newer older undecided =
    let parts = and_parts (list_all read_goes_on (newer ++ older))
    (has_short_rows is_interrupted (newer ++ older)) undecided in
    both _ _ (list_all_of_older read_goes_on newer older parts.0)
    (short_rows_of_older is_interrupted newer older parts.1)

-- a decisive try is a read's newest
pub read_decisive_is_newest : (buffer : List ℕ) (tries : List ReadTry) (calls : List WaitCall) (result : Result ℕ Fault)
    (newer older : List ReadTry) (made : ReadTry)
    → ReadTrace buffer tries calls result → tries ≡ newer ++ (made ∷ older) →
    IsFalse (read_is_inconclusive (map read_outcome (made ∷ older))) → newer ≡ []
read_decisive_is_newest buffer tries calls result newer older made (Empty none no_tries asked answer) is decisive =
    absurd (no_try_in_none newer older made (sym no_tries ∙ is))
read_decisive_is_newest buffer tries calls result newer older made (Tried room trace) is decisive =
    decisive_is_newest read_try_rules _ _ tries calls result
    (λ n o undecided. older_is_inconclusive (map read_outcome n) (map read_outcome o)
    (subst (λ os. IsTrue (read_is_inconclusive os)) (map-append read_outcome n o) undecided))
    newer older made trace is decisive
