-- The parts of a read under way come together to the trace of one read. Lists are newest first.
use Rattle.std.proofs.Common.{◌≡◌, ℕ, zero, suc, ◌+◌, ◌<◌, Bool, true, ◌&&◌, nat_le, List, [], ◌∷◌, ◌++◌, length, map}
use Rattle.std.proofs.Common.{cond, refl, sym, ap, subst, ◌∙◌, Result, Err, Some, IsTrue, IsFalse, arith}
use Rattle.std.specs.List.{list_all}
use Rattle.std.proofs.lemmas.Bool.{and_parts}
use Rattle.std.proofs.lemmas.List.{map-append}
use Rattle.base_types.specs.declared.direction.Dir.TheVariants.{Read}
use Rattle.deadline_core.specs.declared.refusal.Refusal.TheVariants.{Closed}
use Rattle.rwloops.specs.declared.fault.Fault.{Fault}
use Rattle.rwloops.specs.declared.fault.Fault.TheVariants as fault
use Rattle.rwloops.specs.declared.limits.TheConstants.{MAX_RETRIES}
use Rattle.rwloops.specs.declared.outcome.Outcome.{Outcome}
use Rattle.rwloops.specs.declared.outcome.Outcome.TheVariants.{Count, Interrupted, Aborted, WouldBlock as Blocks, Broken}
use Rattle.rwloops.specs.RetryBound.{newest_row, has_short_rows}
use Rattle.rwloops.specs.Outcome.{is_interrupted, is_would_block}
use Rattle.rwloops.specs.Waits.{WaitCall, granted_calls}
use Rattle.rwloops.specs.OutcomeTrace.{Refused, WaitRefused, Decided, EachTry}
use Rattle.rwloops.specs.ReadTrace.{ReadTry, read_goes_on, read_is_inconclusive, read_decision, read_outcome}
use Rattle.rwloops.specs.ReadTrace.{IsReadTry, ReadAnswers, ReadTrace, Empty, Tried}
use Rattle.rwloops.specs.TryNow.{ReadNow, is_granted_prepare, first_wait_refused}
use Rattle.rwloops.specs.UnderWay.{WouldBlock, EachWouldBlock, joined}

-- what passes with older ones that pass passes alone
all_joined : {A : Type 0} (test : A → Bool) (newer older : List A) → list_all test older ≡ true →
    list_all test (newer ++ older) ≡ list_all test newer
all_joined test [] older all = all
all_joined test (made ∷ newer) older all = ap (λ b. test made && b) (all_joined test newer older all)

-- a row doesn't go on over older ones that begin with none
row_joined : {A : Type 0} (test : A → Bool) (newer older : List A) → newest_row test older ≡ 0 →
    newest_row test (newer ++ older) ≡ newest_row test newer
row_joined test [] older none = none
row_joined test (made ∷ newer) older none = ap (λ n. cond (test made) (n + 1) 0) (row_joined test newer older none)

-- so the rows are as short together as each by itself
short_joined : {A : Type 0} (test : A → Bool) (newer older : List A) → newest_row test older ≡ 0 →
    has_short_rows test older ≡ true → has_short_rows test (newer ++ older) ≡ has_short_rows test newer
short_joined test [] older none short = short
short_joined test (made ∷ newer) older none short =
    ap (λ n. nat_le n MAX_RETRIES && has_short_rows test (newer ++ older)) (row_joined test (made ∷ newer) older none)
    ∙ ap (λ b. nat_le (newest_row test (made ∷ newer)) MAX_RETRIES && b) (short_joined test newer older none short)

-- a read goes on after such outcomes as it does after the newer ones alone
goes_on_joined : (newer older : List Outcome) → IsTrue (read_is_inconclusive older) →
    newest_row is_interrupted older ≡ 0 → read_is_inconclusive (newer ++ older) ≡ read_is_inconclusive newer
goes_on_joined newer older undecided none =
    let parts = and_parts (list_all read_goes_on older) (has_short_rows is_interrupted older) undecided in
    ap (λ b. b && has_short_rows is_interrupted (newer ++ older)) (all_joined read_goes_on newer older parts.0)
    ∙ ap (λ b. list_all read_goes_on newer && b) (short_joined is_interrupted newer older none parts.1)

-- what holds of the parts so far: the read goes on, and its newest try blocks
record IsCutSoFar (len : ℕ) (tries : List ReadTry) : Type 0 where
  offered : EachTry (IsReadTry len) tries
  undecided : IsTrue (read_is_inconclusive (map read_outcome tries))
  none : newest_row is_interrupted (map read_outcome tries) ≡ 0

-- what holds of each try holds of each whatever came before
offered_joined : (len : ℕ) (newer older : List ReadTry) → EachTry (IsReadTry len) newer → EachTry (IsReadTry len) older →
    EachTry (IsReadTry len) (newer ++ older)
offered_joined len [] older each each' = each'
offered_joined len (made ∷ newer) older each each' =
    (record { room = each.0.room; count = each.0.count }, offered_joined len newer older each.1 each')

-- the outcomes of a read that goes on by its newer tries go on by all
undecided_joined : (len : ℕ) (newer older : List ReadTry) → IsCutSoFar len older →
    read_is_inconclusive (map read_outcome (newer ++ older)) ≡ read_is_inconclusive (map read_outcome newer)
undecided_joined len newer older cut =
    ap read_is_inconclusive (map-append read_outcome newer older)
    ∙ goes_on_joined (map read_outcome newer) (map read_outcome older) cut.undecided cut.none

joined_cut : (len : ℕ) (newer older : List ReadTry) → IsCutSoFar len newer → IsCutSoFar len older →
    IsCutSoFar len (newer ++ older)
joined_cut len newer older cut cut' = record {
  offered = offered_joined len newer older cut.offered cut'.offered;
  undecided = undecided_joined len newer older cut' ∙ cut.undecided;
  none = ap (λ os. newest_row is_interrupted os) (map-append read_outcome newer older)
      ∙ (row_joined is_interrupted (map read_outcome newer) (map read_outcome older) cut'.none ∙ cut.none);
}

-- a try that blocks isn't interrupted
no_row_at_block : (outcome : Outcome) (earlier : List Outcome) → IsTrue (is_would_block outcome) →
    newest_row is_interrupted (outcome ∷ earlier) ≡ 0
no_row_at_block Blocks earlier blocks = refl
no_row_at_block (Count count) earlier blocks = cc
no_row_at_block Interrupted earlier blocks = cc
no_row_at_block Aborted earlier blocks = cc
no_row_at_block (Broken kind) earlier blocks = cc

-- no try decides that a read is answered `Closed`
not_decided : (buffer : List ℕ) (tries : List ReadTry) (outcome : Outcome) →
    ReadAnswers buffer (read_decision outcome) tries (Err fault.Closed) → ⊥
not_decided buffer tries (Count zero) answer = cc
not_decided buffer tries (Count (suc more)) answer = let never = answer.0 in cc
not_decided buffer tries Interrupted answer = cc
not_decided buffer tries Aborted answer = cc
not_decided buffer tries Blocks answer = answer
not_decided buffer tries (Broken kind) answer = cc

-- a part that would block leaves the read going on
cut_of_trace : (buffer : List ℕ) (tries : List ReadTry) →
    ReadTrace buffer tries (first_wait_refused Read Closed) (Err fault.Closed) → IsCutSoFar (length buffer) tries
cut_of_trace buffer tries (Empty none no_tries no_calls answer) = cc
cut_of_trace buffer tries (Tried room (Refused refusal no_tries asked answer)) = cc
cut_of_trace buffer tries (Tried room (WaitRefused refusal newest earlier are blocks undecided offered asked answer)) =
    record {
      offered = offered;
      undecided = undecided;
      none = subst (λ ts. newest_row is_interrupted (map read_outcome ts) ≡ 0) (sym are)
          (no_row_at_block newest.outcome (map read_outcome earlier) blocks);
    }
cut_of_trace buffer tries (Tried room (Decided newest earlier are undecided decisive offered asked answer)) =
    absurd (not_decided buffer tries newest.outcome answer)

cut_of_part : (len : ℕ) (tries : List ReadTry) → WouldBlock len tries → IsCutSoFar len tries
cut_of_part len tries part = subst (λ n. IsCutSoFar n tries) part.room
    (cut_of_trace part.buffer tries (part.blocked Closed))

cut_of_parts : (len : ℕ) (parts : List (List ReadTry)) → EachWouldBlock len parts → IsCutSoFar len (joined parts)
cut_of_parts len [] each = record { offered = tt; undecided = refl; none = refl }
cut_of_parts len (newest ∷ earlier) each =
    joined_cut len newest (joined earlier) (cut_of_part len newest each.0) (cut_of_parts len earlier each.1)

-- the answer hangs on the newest try alone
same_answer : (buffer : List ℕ) (newest : ReadTry) (earlier earlier' : List ReadTry) (outcome : Outcome)
    (answer : Result ℕ Fault) → ReadAnswers buffer (read_decision outcome) (newest ∷ earlier) answer →
    ReadAnswers buffer (read_decision outcome) (newest ∷ earlier') answer
same_answer buffer newest earlier earlier' (Count zero) answer is = is
same_answer buffer newest earlier earlier' (Count (suc more)) answer is = is
same_answer buffer newest earlier earlier' Interrupted answer is = is
same_answer buffer newest earlier earlier' Aborted answer is = is
same_answer buffer newest earlier earlier' Blocks answer is = is
same_answer buffer newest earlier earlier' (Broken kind) answer is = is

-- the calls on waits of a read all of whose waits were granted
abbrev pub all_granted : List ReadTry → List WaitCall
all_granted tries = granted_calls Read (λ made. is_would_block (read_outcome made)) tries

-- a decisive try on top of all that was before it
decided_over : (buffer : List ℕ) (newest : ReadTry) (earlier older : List ReadTry) (answer : Result ℕ Fault) →
    0 < length buffer → IsCutSoFar (length buffer) older →
    IsTrue (read_is_inconclusive (map read_outcome earlier)) →
    IsFalse (read_is_inconclusive (map read_outcome (newest ∷ earlier))) →
    EachTry (IsReadTry (length buffer)) (newest ∷ earlier) →
    ReadAnswers buffer (read_decision newest.outcome) (newest ∷ earlier) answer →
    ReadTrace buffer ((newest ∷ earlier) ++ older) (all_granted ((newest ∷ earlier) ++ older)) answer
decided_over buffer newest earlier older answer room cut undecided decisive offered is =
    Tried room (Decided newest (earlier ++ older) refl
    (undecided_joined (length buffer) earlier older cut ∙ undecided)
    (undecided_joined (length buffer) (newest ∷ earlier) older cut ∙ decisive)
    (offered_joined (length buffer) (newest ∷ earlier) older offered cut.offered)
    refl
    (same_answer buffer newest earlier (earlier ++ older) newest.outcome answer is))

-- an answered part on top of those that would block
answered_over : (buffer : List ℕ) (last older : List ReadTry) (calls : List WaitCall) (answer : Result ℕ Fault) →
    0 < length buffer → IsCutSoFar (length buffer) older → IsTrue (list_all is_granted_prepare calls) →
    ReadTrace buffer last calls answer → ReadTrace buffer (last ++ older) (all_granted (last ++ older)) answer
answered_over buffer last older calls answer room cut begun (Empty none no_tries no_calls is) =
    absurd (omega (arith, none, room))
answered_over buffer last older calls answer room cut begun (Tried some (Refused refusal no_tries asked is)) =
    absurd (let wrong = subst (λ cs. IsTrue (list_all is_granted_prepare cs)) asked begun in cc)
answered_over buffer last older calls answer room cut begun
    (Tried some (WaitRefused refusal newest earlier are blocks undecided offered asked is)) =
    absurd (let wrong = subst (λ cs. IsTrue (list_all is_granted_prepare cs)) asked begun in cc)
answered_over buffer last older calls answer room cut begun
    (Tried some (Decided newest earlier are undecided decisive offered asked is)) =
    subst (λ ts. ReadTrace buffer (ts ++ older) (all_granted (ts ++ older)) answer) (sym are)
    (decided_over buffer newest earlier older answer room cut undecided
    (subst (λ ts. IsFalse (read_is_inconclusive (map read_outcome ts))) are decisive)
    (subst (λ ts. EachTry (IsReadTry (length buffer)) ts) are offered)
    (subst (λ ts. ReadAnswers buffer (read_decision newest.outcome) ts answer) are is))

-- the tries of a read under way are those of one read, whose waits were all granted
pub parts_are_one_read : (buffer : List ℕ) (parts : List (List ReadTry)) (last : List ReadTry)
    (answer : Result ℕ Fault) → 0 < length buffer → EachWouldBlock (length buffer) parts →
    ReadNow buffer last (Some answer) →
    ReadTrace buffer (last ++ joined parts) (all_granted (last ++ joined parts)) answer
parts_are_one_read buffer parts last answer room each now =
    answered_over buffer last (joined parts) now.calls answer room (cut_of_parts (length buffer) parts each)
    now.begun now.trace
