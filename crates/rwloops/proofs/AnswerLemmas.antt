-- Two calls whose tries had the same outcomes, and whose waits answered the same, answer the same. Lists are newest
-- first.
use Rattle.std.proofs.Common.{◌≡◌, ℕ, Bool, true, false, cond, List, [], ◌∷◌, map, length, refl, sym, ap, subst, ◌∙◌}
use Rattle.std.proofs.Common.{Result, Ok, Err}
use Rattle.std.proofs.lemmas.List.{map-id}
use Rattle.base_types.specs.declared.direction.Dir.{Dir}
use Rattle.base_types.specs.declared.direction.Dir.TheVariants.{Write}
use Rattle.deadline_core.specs.declared.refusal.Refusal.{Refusal}
use Rattle.rwloops.specs.declared.fault.Fault.{Fault}
use Rattle.rwloops.specs.declared.fault.WriteFault.{WriteFault}
use Rattle.rwloops.specs.declared.outcome.AcceptOutcome.{AcceptOutcome}
use Rattle.rwloops.specs.declared.retries.Next.{Next}
use Rattle.rwloops.specs.declared.retries.Next.TheVariants.{Try, Wait, Done, Failed}
use Rattle.rwloops.specs.Waits.{WaitCall, Prepared, Waited, fault_of, granted_calls}
use Rattle.rwloops.specs.OutcomeTrace.{OutcomeRules, OutcomeTrace, Refused, WaitRefused, Decided}
use Rattle.rwloops.specs.Outcome.{sum_of_counts}
use Rattle.rwloops.specs.ReadTrace.{ReadTry, read_outcome, read_rules, read_try_rules, IsReadTry, ReadAnswers}
use Rattle.rwloops.specs.ReadTrace.{ReadTrace, Empty, Tried}
use Rattle.rwloops.specs.WriteTrace.{WriteTry, write_outcome, write_rules, write_try_rules, IsWriteTry, WriteAnswers}
use Rattle.rwloops.specs.WriteTrace.{WriteTrace}
use Rattle.rwloops.specs.WriteTrace.{Empty as NothingToWrite, Tried as TriedToWrite}
use Rattle.rwloops.specs.AcceptTrace.{accept_rules, IsAcceptTry, AcceptAnswers, AcceptTrace}

-- a test that is true of one of two equal values isn't false of the other
true_and_false : {x y : Bool} → x ≡ true → y ≡ false → x ≡ y → ⊥
true_and_false is is_not same = cc

-- a list isn't empty with a call more or without it
not_none : (blocks : Bool) (call : WaitCall) (calls : List WaitCall) → (calls ≡ [] → ⊥) →
    cond blocks (call ∷ calls) calls ≡ [] → ⊥
not_none true call calls some none = cc
not_none false call calls some none = some none

-- each call that tries asks the waits first
asks_first : {A : Type 0} (dir : Dir) (blocks : A → Bool) (tries : List A) → granted_calls dir blocks tries ≡ [] → ⊥
asks_first dir blocks [] none = cc
asks_first dir blocks (made ∷ earlier) none = not_none (blocks made) (Waited dir (Ok tt))
    (granted_calls dir blocks earlier) (asks_first dir blocks earlier) none

module _ {A O D R : Type 0} (rules : OutcomeRules A D) (outcome_of : A → O) (IsOffered IsOffered' : A → List A → Type 0)
    (Answers Answers' : Next D → List A → R → Type 0)
    (same_test : (tries tries' : List A) → map outcome_of tries ≡ map outcome_of tries' →
    rules.is_inconclusive tries ≡ rules.is_inconclusive tries')
    (same_decision : (made made' : A) → outcome_of made ≡ outcome_of made' → rules.decision made ≡ rules.decision made')
    (tries tries' : List A) (calls calls' : List WaitCall) (result result' : R)
    (same_outcomes : map outcome_of tries ≡ map outcome_of tries') (same_calls : calls ≡ calls')
    (one_answer : (next : Next D) → Answers next tries result → Answers' next tries' result' → result ≡ result') where
  -- both were refused by the same refusal
  of_refusals : (refusal refusal' : Refusal) → refusal ≡ refusal' → Answers (Failed (fault_of refusal)) tries result →
      Answers' (Failed (fault_of refusal')) tries' result' → result ≡ result'
  of_refusals refusal refusal' same answer answer' =
      one_answer (Failed (fault_of refusal)) answer
      (subst (λ r. Answers' (Failed (fault_of r)) tries' result') (sym same) answer')

  pub same_answer : OutcomeTrace rules IsOffered Answers tries calls result →
      OutcomeTrace rules IsOffered' Answers' tries' calls' result' → result ≡ result'
  same_answer (Refused refusal none asked answer) (Refused refusal' none' asked' answer') =
      of_refusals refusal refusal' (cc (sym asked ∙ (same_calls ∙ asked'))) answer answer'
  same_answer (Refused refusal none asked answer)
      (WaitRefused refusal' newest earlier are blocks undecided offered asked' answer') =
      absurd (let same : [] ≡ outcome_of newest ∷ map outcome_of earlier = ap (map outcome_of) (sym none) ∙
      (same_outcomes ∙ ap (map outcome_of) are) in cc)
  same_answer (Refused refusal none asked answer)
      (Decided newest earlier are undecided decisive offered asked' answer') =
      absurd (let same : [] ≡ outcome_of newest ∷ map outcome_of earlier = ap (map outcome_of) (sym none) ∙
      (same_outcomes ∙ ap (map outcome_of) are) in cc)
  same_answer (WaitRefused refusal newest earlier are blocks undecided offered asked answer)
      (Refused refusal' none' asked' answer') =
      absurd (let same : outcome_of newest ∷ map outcome_of earlier ≡ [] = ap (map outcome_of) (sym are) ∙
      (same_outcomes ∙ ap (map outcome_of) none') in cc)
  same_answer (WaitRefused refusal newest earlier are blocks undecided offered asked answer)
      (WaitRefused refusal' newest' earlier' are' blocks' undecided' offered' asked' answer') =
      of_refusals refusal refusal' (cc (sym asked ∙ (same_calls ∙ asked'))) answer answer'
  same_answer (WaitRefused refusal newest earlier are blocks undecided offered asked answer)
      (Decided newest' earlier' are' undecided' decisive' offered' asked' answer') =
      absurd (true_and_false undecided decisive' (same_test tries tries' same_outcomes))
  same_answer (Decided newest earlier are undecided decisive offered asked answer)
      (Refused refusal' none' asked' answer') =
      absurd (let same : outcome_of newest ∷ map outcome_of earlier ≡ [] = ap (map outcome_of) (sym are) ∙
      (same_outcomes ∙ ap (map outcome_of) none') in cc)
  same_answer (Decided newest earlier are undecided decisive offered asked answer)
      (WaitRefused refusal' newest' earlier' are' blocks' undecided' offered' asked' answer') =
      absurd (true_and_false undecided' decisive (sym (same_test tries tries' same_outcomes)))
  same_answer (Decided newest earlier are undecided decisive offered asked answer)
      (Decided newest' earlier' are' undecided' decisive' offered' asked' answer') =
      let same : outcome_of newest ∷ map outcome_of earlier ≡ outcome_of newest' ∷ map outcome_of earlier' =
      ap (map outcome_of) (sym are) ∙ (same_outcomes ∙ ap (map outcome_of) are') in
      let newest_same : outcome_of newest ≡ outcome_of newest' = cc in
      one_answer (rules.decision newest) answer (subst (λ next. Answers' next tries' result')
      (sym (same_decision newest newest' newest_same)) answer')

-- an answer of a read is decided by what follows its last try
one_read_answer : (buffer buffer' : List ℕ) (tries tries' : List ReadTry) (result result' : Result ℕ Fault)
    (next : Next ℕ) → ReadAnswers buffer next tries result → ReadAnswers buffer' next tries' result' → result ≡ result'
one_read_answer buffer buffer' tries tries' result result' (Done count) answer answer' = answer.0 ∙ sym answer'.0
one_read_answer buffer buffer' tries tries' result result' (Failed fault) answer answer' = answer ∙ sym answer'
one_read_answer buffer buffer' tries tries' result result' Try answer answer' = absurd answer
one_read_answer buffer buffer' tries tries' result result' Wait answer answer' = absurd answer

-- a read of no room asks nothing, and any other asks first
asks_of_a_read : (buffer : List ℕ) (tries : List ReadTry) (result : Result ℕ Fault) →
    OutcomeTrace read_try_rules (IsReadTry (length buffer)) (ReadAnswers buffer) tries [] result → ⊥
asks_of_a_read buffer tries result (Refused refusal none asked answer) = cc
asks_of_a_read buffer tries result (WaitRefused refusal newest earlier are blocks undecided offered asked answer) = cc
asks_of_a_read buffer tries result (Decided newest earlier are undecided decisive offered asked answer) =
    asks_first _ _ tries (sym asked)

pub outcomes_decide_a_read : (buffer buffer' : List ℕ) (tries tries' : List ReadTry) (calls calls' : List WaitCall)
    (result result' : Result ℕ Fault)
    → ReadTrace buffer tries calls result → ReadTrace buffer' tries' calls' result' →
    map read_outcome tries ≡ map read_outcome tries' → calls ≡ calls' → result ≡ result'
outcomes_decide_a_read buffer buffer' tries tries' calls calls' result result' (Empty room none asked answer)
    (Empty room' none' asked' answer') same_outcomes same_calls = answer ∙ sym answer'
outcomes_decide_a_read buffer buffer' tries tries' calls calls' result result' (Empty room none asked answer)
    (Tried room' trace') same_outcomes same_calls =
    absurd (asks_of_a_read buffer' tries' result'
    (subst (λ cs. OutcomeTrace read_try_rules (IsReadTry (length buffer')) (ReadAnswers buffer') tries' cs result')
    (sym same_calls ∙ asked) trace'))
outcomes_decide_a_read buffer buffer' tries tries' calls calls' result result' (Tried room trace)
    (Empty room' none' asked' answer') same_outcomes same_calls =
    absurd (asks_of_a_read buffer tries result (subst
    (λ cs. OutcomeTrace read_try_rules (IsReadTry (length buffer)) (ReadAnswers buffer) tries cs result)
    (same_calls ∙ asked') trace))
outcomes_decide_a_read buffer buffer' tries tries' calls calls' result result' (Tried room trace)
    (Tried room' trace') same_outcomes same_calls =
    same_answer read_try_rules read_outcome (IsReadTry (length buffer)) (IsReadTry (length buffer'))
    (ReadAnswers buffer) (ReadAnswers buffer')
    (λ ts ts' same. ap read_rules.is_inconclusive same) (λ made made' same. ap read_rules.decision same)
    tries tries' calls calls' result result' same_outcomes same_calls
    (one_read_answer buffer buffer' tries tries' result result') trace trace'

-- an answer of a write is decided by what follows its last try and by the counts
one_write_answer : (tries tries' : List WriteTry) (result result' : Result ℕ WriteFault) →
    map write_outcome tries ≡ map write_outcome tries'
    → (next : Next ℕ) → WriteAnswers next tries result → WriteAnswers next tries' result' → result ≡ result'
one_write_answer tries tries' result result' same (Done count) answer answer' = answer.0 ∙ sym answer'.0
one_write_answer tries tries' result result' same (Failed fault) answer answer' =
    answer ∙ (ap (λ outcomes. Err (record { fault = fault; count = sum_of_counts outcomes })) same ∙ sym answer')
one_write_answer tries tries' result result' same Try answer answer' = absurd answer
one_write_answer tries tries' result result' same Wait answer answer' = absurd answer

-- no outcomes are those of no tries
no_outcomes : (tries : List WriteTry) → map write_outcome tries ≡ [] → tries ≡ []
no_outcomes [] none = refl
no_outcomes (made ∷ earlier) none = cc

-- a write that tried nothing, and was granted its prepare, isn't one that tries
not_granted : (len : ℕ) (bytes : List ℕ) (tries : List WriteTry) (result : Result ℕ WriteFault) → tries ≡ []
    → OutcomeTrace (write_try_rules len) (IsWriteTry bytes) WriteAnswers tries (Prepared Write (Ok tt) ∷ []) result → ⊥
not_granted len bytes tries result none (Refused refusal no_tries asked answer) = cc
not_granted len bytes tries result none (WaitRefused refusal newest earlier are blocks undecided offered asked answer) =
    cc (sym none ∙ are)
not_granted len bytes tries result none (Decided newest earlier are undecided decisive offered asked answer) =
    cc (sym none ∙ are)

pub outcomes_decide_a_write : (bytes other : List ℕ) (tries others : List WriteTry) (calls asked : List WaitCall)
    (result answer : Result ℕ WriteFault)
    → WriteTrace bytes tries calls result → WriteTrace other others asked answer → length bytes ≡ length other →
    map write_outcome tries ≡ map write_outcome others → calls ≡ asked → result ≡ answer
outcomes_decide_a_write bytes other tries others calls asked result answer (NothingToWrite room none granted is)
    (NothingToWrite room' none' granted' is') same_length same_outcomes same_calls = is ∙ sym is'
outcomes_decide_a_write bytes other tries others calls asked result answer (NothingToWrite room none granted is)
    (TriedToWrite trace') same_length same_outcomes same_calls =
    absurd (not_granted (length other) other others answer
    (no_outcomes others (sym same_outcomes ∙ ap (map write_outcome) none))
    (subst (λ cs. OutcomeTrace (write_try_rules (length other)) (IsWriteTry other) WriteAnswers others cs answer)
    (sym same_calls ∙ granted) trace'))
outcomes_decide_a_write bytes other tries others calls asked result answer (TriedToWrite trace)
    (NothingToWrite room' none' granted' is') same_length same_outcomes same_calls =
    absurd (not_granted (length bytes) bytes tries result
    (no_outcomes tries (same_outcomes ∙ ap (map write_outcome) none'))
    (subst (λ cs. OutcomeTrace (write_try_rules (length bytes)) (IsWriteTry bytes) WriteAnswers tries cs result)
    (same_calls ∙ granted') trace))
outcomes_decide_a_write bytes other tries others calls asked result answer (TriedToWrite trace)
    (TriedToWrite trace') same_length same_outcomes same_calls =
    same_answer (write_try_rules (length bytes)) write_outcome (IsWriteTry bytes)
    (IsWriteTry other) WriteAnswers WriteAnswers
    (λ ts ts' same. ap (write_rules (length bytes)).is_inconclusive same)
    (λ made made' same. ap (write_rules (length bytes)).decision same)
    tries others calls asked result answer same_outcomes same_calls
    (one_write_answer tries others result answer same_outcomes) trace
    (subst (λ len. OutcomeTrace (write_try_rules len) (IsWriteTry other) WriteAnswers others asked answer)
    (sym same_length) trace')

-- an answer of an accept is decided by what follows its last try
one_accept_answer : {T : Type 0} (tries tries' : List (AcceptOutcome T)) (result result' : Result T Fault)
    (next : Next T) → AcceptAnswers next tries result → AcceptAnswers next tries' result' → result ≡ result'
one_accept_answer tries tries' result result' (Done taken) answer answer' = answer ∙ sym answer'
one_accept_answer tries tries' result result' (Failed fault) answer answer' = answer ∙ sym answer'
one_accept_answer tries tries' result result' Try answer answer' = absurd answer
one_accept_answer tries tries' result result' Wait answer answer' = absurd answer

-- equal lists of outcomes, as `map` has them
as_mapped : {A : Type 0} (made others : List A) → map (λ outcome. outcome) made ≡ map (λ outcome. outcome) others →
    made ≡ others
as_mapped made others same = sym (map-id made) ∙ (same ∙ map-id others)

pub outcomes_decide_an_accept : {T : Type 0} (tries others : List (AcceptOutcome T)) (calls asked : List WaitCall)
    (result answer : Result T Fault)
    → AcceptTrace tries calls result → AcceptTrace others asked answer → tries ≡ others → calls ≡ asked →
    result ≡ answer
outcomes_decide_an_accept {T = T} tries others calls asked result answer trace trace' same same_calls =
    same_answer (accept_rules T) (λ outcome. outcome) IsAcceptTry IsAcceptTry AcceptAnswers AcceptAnswers
    (λ ts ts' mapped. ap (accept_rules T).is_inconclusive (as_mapped ts ts' mapped))
    (λ made made' is. ap (accept_rules T).decision is)
    tries others calls asked result answer (ap (map (λ outcome. outcome)) same) same_calls
    (one_accept_answer tries others result answer) trace trace'
