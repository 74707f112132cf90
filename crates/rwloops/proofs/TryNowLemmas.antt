-- One try of a call that doesn't wait after another, the same for read, write and accept. Lists are newest first.
use Rattle.std.proofs.Common.{◌≡◌, ℕ, true, false, List, [], ◌∷◌, refl, sym, ap, subst, ◌∙◌, Ok, Err, map}
use Rattle.std.specs.Borrow.{MutBor}
use Rattle.deadline_core.specs.declared.refusal.Refusal.{Refusal}
use Rattle.rwloops.specs.declared.retries.Next.{Next}
use Rattle.rwloops.specs.declared.retries.Next.TheVariants.{Try, Wait, Failed}
use Rattle.rwloops.specs.Waits.{WaitCall, Prepared, Waited, fault_of, granted_calls, Tells}
use Rattle.rwloops.specs.OutcomeTrace.{OutcomeRules, is_open, EachTry, OutcomeTrace, WaitRefused, Decided}
use Rattle.rwloops.specs.Turns.{Event, Tried, tries_in, IsTurn, EachTells}
use Rattle.rwloops.specs.ReadTrace.{ReadTry, read_try_rules, IsReadTry}
use Rattle.rwloops.specs.TryNow.{AsksNoWait, first_wait_refused, IsTried, IsTriedInTurn}
use Rattle.rwloops.proofs.TraceLemmas.{GoesOn, not_blocked, has_blocked, is_decision, false_with}

-- what holds of a call that goes on without a wait
pub record IsNowSoFar {A D : Type 0} (rules : OutcomeRules A D) (IsOffered : A → List A → Type 0)
    (Went : List (Event A) → Type 0) (StandsFor : List A → Type 0) : Type 0 where
  pub tries : List A
  pub went : Went (map Tried tries)
  pub offered : EachTry IsOffered tries
  pub stands : StandsFor tries
  pub quick : granted_calls rules.dir rules.blocks tries ≡ Prepared rules.dir (Ok tt) ∷ []

-- tries that are among other events are the tries of these
pub tries_alone : {A : Type 0} (tries : List A) → tries_in (map Tried tries) ≡ tries
tries_alone [] = refl
tries_alone (made ∷ earlier) = ap (λ ts. made ∷ ts) (tries_alone earlier)

module _ {A D : Type 0} (rules : OutcomeRules A D) (IsOffered Made : A → List A → Type 0)
    (Before After : List (Event A) → Type 0) (StandsFor StandsFor' : List A → Type 0) (next : Next D)
    (goes_on : GoesOn rules StandsFor) (goes_on' : GoesOn rules StandsFor') where
  abbrev pub NowSoFar : Type 0
  NowSoFar = IsNowSoFar rules IsOffered Before StandsFor

  abbrev pub NowTurn : Type 0
  NowTurn = (earlier : List A) → StandsFor earlier → IsTurn rules IsOffered Made Before After StandsFor' earlier next

  -- after a try that doesn't block the call goes on at once
  pub now_on : NowSoFar → NowTurn → next ≡ Try → IsNowSoFar rules IsOffered After StandsFor'
  now_on s turn is =
      let t = turn s.tries s.stands in
      let goes = goes_on'.inconclusive _ (t.stands (ap is_open is)) in
      let quick : rules.blocks t.made ≡ false = not_blocked _ _ (rules.decision t.made) goes (sym is ∙ t.answer) in
      record {
        tries = t.made ∷ s.tries;
        went = t.told _ s.went;
        offered = (t.offered, s.offered);
        stands = t.stands (ap is_open is);
        quick = rw quick s.quick;
      }

  module _ {R : Type 0} (Answers : Next D → List A → R → Type 0) where
    -- after a try that blocks the call is as one that is refused its first wait
    pub now_blocked : (result : Refusal → R) → NowSoFar → NowTurn → next ≡ Wait
        → ((refusal : Refusal) (made : A) (earlier : List A) → Made made earlier →
        Answers (Failed (fault_of refusal)) (made ∷ earlier) (result refusal)) →
        IsTriedInTurn After (λ tries. (refusal : Refusal) →
        OutcomeTrace rules IsOffered Answers tries (first_wait_refused rules.dir refusal) (result refusal))
    now_blocked result s turn is answers =
        let t = turn s.tries s.stands in
        let goes = goes_on'.inconclusive _ (t.stands (ap is_open is)) in
        let blocks : rules.blocks t.made ≡ true = has_blocked _ _ (rules.decision t.made) goes (sym is ∙ t.answer) in
        record {
          tries = t.made ∷ s.tries;
          went = t.told _ s.went;
          trace = λ refusal. WaitRefused refusal t.made s.tries refl blocks goes (t.offered, s.offered)
              (ap (λ cs. Waited rules.dir (Err refusal) ∷ cs) (sym s.quick))
              (answers refusal t.made s.tries t.holds);
        }

    -- after a decisive try the call is over, and has asked for no wait
    pub now_decided : (result : R) → NowSoFar → NowTurn → is_open next ≡ false
        → ((made : A) (earlier : List A) → Made made earlier → next ≡ rules.decision made →
        Answers (rules.decision made) (made ∷ earlier) result) →
        IsTriedInTurn After (λ tries. AsksNoWait (λ calls. OutcomeTrace rules IsOffered Answers tries calls result))
    now_decided result s turn closed answers =
        let t = turn s.tries s.stands in
        let d : (rules.is_inconclusive (t.made ∷ s.tries) ≡ false) × (next ≡ rules.decision t.made) =
        is_decision _ _ _ _ t.answer closed in
        let quick : rules.blocks t.made ≡ false =
        false_with _ _ (λ blocks. goes_on.blocked t.made s.tries blocks (goes_on.inconclusive _ s.stands)) d.0 in
        record {
          tries = t.made ∷ s.tries;
          went = t.told _ s.went;
          trace = record {
            calls = Prepared rules.dir (Ok tt) ∷ [];
            begun = refl;
            trace = Decided t.made s.tries refl (goes_on.inconclusive _ s.stands) d.0 (t.offered, s.offered)
                (sym (rw quick s.quick)) (answers t.made s.tries t.holds d.1);
          };
        }

-- a trace of tries is one of a weaker kind
pub as_tried : {A : Type 0} {Went : List (Event A) → Type 0} {P Q : List A → Type 0}
    → ((tries : List A) → P tries → Q tries) → IsTriedInTurn Went P → IsTriedInTurn Went Q
as_tried weaker t = record { tries = t.tries; went = t.went; trace = weaker t.tries t.trace }

-- a call that asks for no wait is one of a weaker kind
pub as_no_wait : {P Q : List WaitCall → Type 0} → ((calls : List WaitCall) → P calls → Q calls) → AsksNoWait P →
    AsksNoWait Q
as_no_wait weaker t = record { calls = t.calls; begun = t.begun; trace = weaker t.calls t.trace }

-- what holds at one buffer holds at another of the same length
pub now_at_length : {Went : List (Event ReadTry) → Type 0} {StandsFor : List ReadTry → Type 0}
    (len len' : ℕ) → len' ≡ len
    → IsNowSoFar read_try_rules (IsReadTry len) Went StandsFor → IsNowSoFar read_try_rules (IsReadTry len') Went StandsFor
now_at_length {Went = Went} {StandsFor = StandsFor} len len' same s =
    subst (λ n. IsNowSoFar read_try_rules (IsReadTry n) Went StandsFor) (sym same) s

-- what the tries led to was told to the half
pub told_half : {A H W : Type 0} (half_tells : H → List A → Type 0) (waits_tell : W → List WaitCall → Type 0)
    (half half' : MutBor H) (waits waits' : MutBor W) (Trace : List A → Type 0) (first last : H) →
    IsTriedInTurn (EachTells half_tells waits_tell half half' waits waits') Trace →
    half.now ≡ first → last ≡ half'.now → IsTried Trace (half_tells first) (half_tells last)
told_half half_tells waits_tell half half' waits waits' Trace first last t is ends = record {
  tries = t.tries;
  trace = t.trace;
  half_tells = subst (λ h. Tells (half_tells first) (half_tells h) t.tries) (sym ends)
      (subst (λ h. Tells (half_tells h) (half_tells half'.now) t.tries) is
      (subst (λ ts. Tells (half_tells half.now) (half_tells half'.now) ts) (tries_alone t.tries) t.went.tries));
}
