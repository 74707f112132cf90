-- What one call tried, asked and answered, given the outcomes: the same for read, write and accept.
-- Lists are newest first.
use Rattle.std.specs.Prelude.{◌≡◌, Bool, true, false, List, [], ◌∷◌, map, Err, IsTrue, IsFalse}
use Rattle.std.specs.Prelude.{if◌then◌else◌}
use Rattle.base_types.specs.declared.direction.Dir.{Dir}
use Rattle.deadline_core.specs.declared.refusal.Refusal.{Refusal}
use Rattle.rwloops.specs.declared.retries.Next.{Next}
use Rattle.rwloops.specs.declared.retries.Next.TheVariants.{Try, Wait, Failed}
use Rattle.rwloops.specs.Waits.{WaitCall, Prepared, Waited, fault_of, granted_calls, Tells}

-- how one kind of call reads its tries
pub record OutcomeRules (A D : Type 0) : Type 0 where
  -- the direction that is prepared and waited for
  pub dir : Dir
  -- after this try the call waits
  pub blocks : A → Bool
  -- after these tries the call goes on
  pub is_inconclusive : List A → Bool
  -- what the call comes to by a decisive try, the first that leaves the list not inconclusive
  pub decision : A → Next D

-- the same rules for tries that have an outcome each
abbrev pub over : {A O D : Type 0} → (A → O) → OutcomeRules O D → OutcomeRules A D
over outcome_of rules = record {
  dir = rules.dir;
  blocks = λ made. rules.blocks (outcome_of made);
  is_inconclusive = λ tries. rules.is_inconclusive (map outcome_of tries);
  decision = λ made. rules.decision (outcome_of made);
}

-- what follows a try
abbrev pub next_after : {A D : Type 0} → OutcomeRules A D → List A → A → Next D
next_after rules earlier made = if rules.is_inconclusive (made ∷ earlier) then
    (if rules.blocks made then Wait else Try) else rules.decision made

-- the call goes on
abbrev pub is_open : {D : Type 0} → Next D → Bool
is_open Try = true
is_open Wait = true
is_open _ = false

-- the fact holds of each try and those before it
abbrev pub EachTry : {A : Type 0} → (A → List A → Type 0) → List A → Type 0
EachTry Holds [] = Unit {0}
EachTry Holds (made ∷ earlier) = Holds made earlier × EachTry Holds earlier

-- the tries, the calls on waits and the answer of one call
pub data OutcomeTrace {A D R : Type 0} (rules : OutcomeRules A D) (IsOffered : A → List A → Type 0)
    (Answers : Next D → List A → R → Type 0) (tries : List A) (calls : List WaitCall)
    (result : R) : Type 0 where
  -- prepare was refused: nothing is tried
  Refused : (refusal : Refusal) → (tries ≡ []) → (calls ≡ Prepared rules.dir (Err refusal) ∷ [])
      → Answers (Failed (fault_of refusal)) tries result →
      OutcomeTrace rules IsOffered Answers tries calls result
  -- a wait was refused, after an inconclusive list whose newest try blocks
  WaitRefused : (refusal : Refusal) (newest : A) (earlier : List A) → (tries ≡ newest ∷ earlier) →
      IsTrue (rules.blocks newest)
      → IsTrue (rules.is_inconclusive tries) → EachTry IsOffered tries
      → (calls ≡ Waited rules.dir (Err refusal) ∷ granted_calls rules.dir rules.blocks earlier)
      → Answers (Failed (fault_of refusal)) tries result →
      OutcomeTrace rules IsOffered Answers tries calls result
  -- a decisive try, after an inconclusive list
  Decided : (newest : A) (earlier : List A) → (tries ≡ newest ∷ earlier) →
      IsTrue (rules.is_inconclusive earlier)
      → IsFalse (rules.is_inconclusive tries) → EachTry IsOffered tries →
      (calls ≡ granted_calls rules.dir rules.blocks tries)
      → Answers (rules.decision newest) tries result →
      OutcomeTrace rules IsOffered Answers tries calls result

-- some tries and some calls on waits make up the trace, and each side that tells what came before
-- tells them on top
pub record IsTraced {A : Type 0} (Trace : List A → List WaitCall → Type 0)
    (half_before half_after : List A → Type 0)
    (waits_before waits_after : List WaitCall → Type 0) : Type 0 where
  pub tries : List A
  pub calls : List WaitCall
  pub trace : Trace tries calls
  pub half_tells : Tells half_before half_after tries
  pub waits_tell : Tells waits_before waits_after calls
