-- One turn of a call after another, the same for read, write and accept. Lists are newest first.
use Rattle.std.proofs.Common.{◌≡◌, Bool, true, false, List, [], ◌∷◌, ◌++◌, cond, refl, sym, ap, subst, ◌∙◌, Ok, Err}
use Rattle.std.proofs.Common.{IsTrue, IsFalse}
use Rattle.std.specs.Borrow.{MutBor}
use Rattle.base_types.specs.declared.direction.Dir.{Dir}
use Rattle.deadline_core.specs.declared.refusal.Refusal.{Refusal}
use Rattle.rwloops.specs.declared.retries.Next.{Next}
use Rattle.rwloops.specs.declared.retries.Next.TheVariants.{Try, Wait, Failed}
use Rattle.rwloops.specs.Waits.{WaitCall, Prepared, Waited, fault_of, granted_calls, Tells}
use Rattle.rwloops.specs.OutcomeTrace.{OutcomeRules, is_open, EachTry, OutcomeTrace, Refused, WaitRefused, Decided}
use Rattle.rwloops.specs.OutcomeTrace.{IsTraced}
use Rattle.rwloops.specs.Turns.{Event, Tried, Asked, tries_in, calls_in, ComesAfter, IsTurn, IsInTurn, EachTells}

-- what a loop's state and its rules keep: the tries that it stands for are inconclusive, and a try that blocks leaves
-- them so
pub record GoesOn {A D : Type 0} (rules : OutcomeRules A D) (StandsFor : List A → Type 0) : Type 0 where
  pub inconclusive : (tries : List A) → StandsFor tries → IsTrue (rules.is_inconclusive tries)
  pub blocked : (made : A) (earlier : List A) → IsTrue (rules.blocks made) → IsTrue (rules.is_inconclusive earlier) →
      IsTrue (rules.is_inconclusive (made ∷ earlier))

-- the events of tries that each were granted a wait where they blocked
abbrev pub granted_events : {A D : Type 0} → OutcomeRules A D → List A → List (Event A)
granted_events rules [] = Asked (Prepared rules.dir (Ok tt)) ∷ []
granted_events rules (made ∷ earlier) =
    cond (rules.blocks made) (Asked (Waited rules.dir (Ok tt)) ∷ (Tried made ∷ granted_events rules earlier))
    (Tried made ∷ granted_events rules earlier)

-- what holds of a call that goes on
pub record IsSoFar {A D : Type 0} (rules : OutcomeRules A D) (IsOffered : A → List A → Type 0)
    (Went : List (Event A) → Type 0) (StandsFor : List A → Type 0) : Type 0 where
  pub tries : List A
  pub went : Went (granted_events rules tries)
  pub offered : EachTry IsOffered tries
  pub stands : StandsFor tries

-- the tries among their events are these
tries_step : {A : Type 0} (blocks : Bool) (dir : Dir) (made : A) (events : List (Event A)) →
    tries_in (cond blocks (Asked (Waited dir (Ok tt)) ∷ (Tried made ∷ events)) (Tried made ∷ events)) ≡
    made ∷ tries_in events
tries_step true dir made events = refl
tries_step false dir made events = refl

pub tries_granted : {A D : Type 0} (rules : OutcomeRules A D) (tries : List A) →
    tries_in (granted_events rules tries) ≡ tries
tries_granted rules [] = refl
tries_granted rules (made ∷ earlier) = tries_step (rules.blocks made) rules.dir made (granted_events rules earlier)
    ∙ ap (λ ts. made ∷ ts) (tries_granted rules earlier)

-- the calls on waits among their events are those that were granted
calls_step : {A : Type 0} (blocks : Bool) (dir : Dir) (made : A) (events : List (Event A)) (calls : List WaitCall) →
    calls_in events ≡ calls →
    calls_in (cond blocks (Asked (Waited dir (Ok tt)) ∷ (Tried made ∷ events)) (Tried made ∷ events)) ≡
    cond blocks (Waited dir (Ok tt) ∷ calls) calls
calls_step true dir made events calls is = ap (λ cs. Waited dir (Ok tt) ∷ cs) is
calls_step false dir made events calls is = is

pub calls_granted : {A D : Type 0} (rules : OutcomeRules A D) (tries : List A) →
    calls_in (granted_events rules tries) ≡ granted_calls rules.dir rules.blocks tries
calls_granted rules [] = refl
calls_granted rules (made ∷ earlier) = calls_step (rules.blocks made) rules.dir made (granted_events rules earlier)
    (granted_calls rules.dir rules.blocks earlier) (calls_granted rules earlier)

-- events in their order, after which a try may come
pub record MayTry {A D : Type 0} (rules : OutcomeRules A D) (events : List (Event A)) : Type 0 where
  pub order : EachTry (ComesAfter rules) events
  pub next : (later : A) → ComesAfter rules (Tried later) events

may_try_step : {A D : Type 0} (rules : OutcomeRules A D) (blocks : Bool) (made : A) (events : List (Event A)) →
    rules.blocks made ≡ blocks → MayTry rules events →
    MayTry rules (cond blocks (Asked (Waited rules.dir (Ok tt)) ∷ (Tried made ∷ events)) (Tried made ∷ events))
may_try_step rules true made events is before =
    record { order = ((refl, is), (before.next made, before.order)); next = λ later. refl }
may_try_step rules false made events is before =
    record { order = (before.next made, before.order); next = λ later. is }

-- the events of granted tries are in their order, and a try may come after them
pub may_try_granted : {A D : Type 0} (rules : OutcomeRules A D) (tries : List A) →
    MayTry rules (granted_events rules tries)
may_try_granted rules [] = record { order = (refl, tt); next = λ later. refl }
may_try_granted rules (made ∷ earlier) = may_try_step rules (rules.blocks made) made (granted_events rules earlier)
    refl (may_try_granted rules earlier)

-- who wants to try again at once has not blocked
pub not_blocked : {D : Type 0} (goes_on blocks : Bool) (decision : Next D) → goes_on ≡ true →
    Try ≡ cond goes_on (cond blocks Wait Try) decision → blocks ≡ false
not_blocked true true decision e is = cc
not_blocked true false decision e is = refl
not_blocked false blocks decision e is = cc

-- who wants to wait has blocked
pub has_blocked : {D : Type 0} (goes_on blocks : Bool) (decision : Next D) → goes_on ≡ true →
    Wait ≡ cond goes_on (cond blocks Wait Try) decision → blocks ≡ true
has_blocked true true decision e is = refl
has_blocked true false decision e is = cc
has_blocked false blocks decision e is = cc

-- an answer that ends the call is a decision, after tries that are not inconclusive
pub is_decision : {D : Type 0} (goes_on blocks : Bool) (decision next : Next D) →
    next ≡ cond goes_on (cond blocks Wait Try) decision → is_open next ≡ false → (goes_on ≡ false) × (next ≡ decision)
is_decision false blocks decision next is closed = (refl, is)
is_decision true true decision next is closed = absurd (let still_open : is_open next ≡ true = ap is_open is in cc)
is_decision true false decision next is closed = absurd (let still_open : is_open next ≡ true = ap is_open is in cc)

-- a test that would make another true is false with it
pub false_with : (blocks goes_on : Bool) → (blocks ≡ true → goes_on ≡ true) → goes_on ≡ false → blocks ≡ false
false_with true goes_on holds is = let true_too = holds refl in cc
false_with false goes_on holds is = refl

-- what holds of two lists holds of two that are the same
pub at_lists : {A : Type 0} {tries tries' : List A} {calls calls' : List WaitCall}
    (Trace : List A → List WaitCall → Type 0) → tries' ≡ tries → calls' ≡ calls → Trace tries calls →
    Trace tries' calls'
at_lists {tries' = tries'} {calls = calls} Trace same asked trace =
    subst (λ cs. Trace tries' cs) (sym asked) (subst (λ ts. Trace ts calls) (sym same) trace)

-- a trace is one of a weaker kind
pub as_trace : {A D : Type 0} {rules : OutcomeRules A D} {Went : List (Event A) → Type 0}
    {P Q : List A → List WaitCall → Type 0}
    → ((tries : List A) (calls : List WaitCall) → P tries calls → Q tries calls) → IsInTurn rules Went P →
    IsInTurn rules Went Q
as_trace weaker t = record {
  events = t.events;
  went = t.went;
  turns = t.turns;
  trace = weaker (tries_in t.events) (calls_in t.events) t.trace;
}

module _ {A D : Type 0} (rules : OutcomeRules A D) (IsOffered Made : A → List A → Type 0)
    (Before After : List (Event A) → Type 0) (StandsFor StandsFor' : List A → Type 0) (next : Next D)
    (goes_on : GoesOn rules StandsFor) (goes_on' : GoesOn rules StandsFor') where
  abbrev pub SoFar : Type 0
  SoFar = IsSoFar rules IsOffered Before StandsFor

  abbrev pub Turn : Type 0
  Turn = (earlier : List A) → StandsFor earlier → IsTurn rules IsOffered Made Before After StandsFor' earlier next

  inconclusive_with : {earlier : List A} → (t : IsTurn rules IsOffered Made Before After StandsFor' earlier next) →
      IsTrue (is_open next) → IsTrue (rules.is_inconclusive (t.made ∷ earlier))
  inconclusive_with t is_still_open = goes_on'.inconclusive _ (t.stands is_still_open)

  -- after a try that doesn't block the call goes on at once
  pub tries_on : SoFar → Turn → next ≡ Try → IsSoFar rules IsOffered After StandsFor'
  tries_on s turn is =
      let t = turn s.tries s.stands in
      let quick : rules.blocks t.made ≡ false = not_blocked _ _ (rules.decision t.made)
      (inconclusive_with t (ap is_open is)) (sym is ∙ t.answer) in
      record {
        tries = t.made ∷ s.tries;
        went = rw quick (t.told _ s.went);
        offered = (t.offered, s.offered);
        stands = t.stands (ap is_open is);
      }

  -- after a try that blocks, and a wait that was granted, the call goes on
  pub waits_on : (Later : List (Event A) → Type 0) → SoFar → Turn →
      ((events : List (Event A)) → After events → Later (Asked (Waited rules.dir (Ok tt)) ∷ events)) →
      next ≡ Wait → IsSoFar rules IsOffered Later StandsFor'
  waits_on Later s turn asked is =
      let t = turn s.tries s.stands in
      let blocks : rules.blocks t.made ≡ true = has_blocked _ _ (rules.decision t.made)
      (inconclusive_with t (ap is_open is)) (sym is ∙ t.answer) in
      record {
        tries = t.made ∷ s.tries;
        went = rw blocks (asked _ (t.told _ s.went));
        offered = (t.offered, s.offered);
        stands = t.stands (ap is_open is);
      }

  module _ {R : Type 0} (Answers : Next D → List A → R → Type 0) (result : R) where
    abbrev pub Traced : (List (Event A) → Type 0) → Type 0
    Traced Went = IsInTurn rules Went (λ tries calls. OutcomeTrace rules IsOffered Answers tries calls result)

    -- after a try that blocks, and a wait that was refused, the call is over
    pub wait_refused : (Later : List (Event A) → Type 0) (refusal : Refusal) → SoFar → Turn →
        ((events : List (Event A)) → After events → Later (Asked (Waited rules.dir (Err refusal)) ∷ events)) →
        next ≡ Wait → ((made : A) (earlier : List A) → Made made earlier →
        Answers (Failed (fault_of refusal)) (made ∷ earlier) result) → Traced Later
    wait_refused Later refusal s turn asked is answers =
        let t = turn s.tries s.stands in
        let goes = inconclusive_with t (ap is_open is) in
        let blocks : rules.blocks t.made ≡ true = has_blocked _ _ (rules.decision t.made) goes (sym is ∙ t.answer) in
        let may = may_try_granted rules s.tries in
        let calls = Waited rules.dir (Err refusal) ∷ granted_calls rules.dir rules.blocks s.tries in
        let trace : OutcomeTrace rules IsOffered Answers (t.made ∷ s.tries) calls result =
        WaitRefused refusal t.made s.tries refl blocks goes (t.offered, s.offered) refl
        (answers t.made s.tries t.holds) in
        record {
          events = Asked (Waited rules.dir (Err refusal)) ∷ (Tried t.made ∷ granted_events rules s.tries);
          went = asked _ (t.told _ s.went);
          turns = record { order = ((refl, blocks), (may.next t.made, may.order)); ends = tt };
          trace = at_lists (λ ts cs. OutcomeTrace rules IsOffered Answers ts cs result)
              (ap (λ ts. t.made ∷ ts) (tries_granted rules s.tries))
              (ap (λ cs. Waited rules.dir (Err refusal) ∷ cs) (calls_granted rules s.tries)) trace;
        }

    -- after a decisive try the call is over
    pub decided : SoFar → Turn → is_open next ≡ false
        → ((made : A) (earlier : List A) → Made made earlier → next ≡ rules.decision made →
        Answers (rules.decision made) (made ∷ earlier) result) → Traced After
    decided s turn closed answers =
        let t = turn s.tries s.stands in
        let d : (rules.is_inconclusive (t.made ∷ s.tries) ≡ false) × (next ≡ rules.decision t.made) =
        is_decision _ _ _ _ t.answer closed in
        let quick : rules.blocks t.made ≡ false =
        false_with _ _ (λ blocks. goes_on.blocked t.made s.tries blocks (goes_on.inconclusive _ s.stands)) d.0 in
        let may = may_try_granted rules s.tries in
        let trace : OutcomeTrace rules IsOffered Answers (t.made ∷ s.tries)
        (granted_calls rules.dir rules.blocks (t.made ∷ s.tries)) result =
        Decided t.made s.tries refl (goes_on.inconclusive _ s.stands) d.0 (t.offered, s.offered) refl
        (answers t.made s.tries t.holds d.1) in
        let granted : calls_in (granted_events rules s.tries) ≡
        granted_calls rules.dir rules.blocks (t.made ∷ s.tries) = rw quick (calls_granted rules s.tries) in
        record {
          events = Tried t.made ∷ granted_events rules s.tries;
          went = t.told _ s.went;
          turns = record { order = (may.next t.made, may.order); ends = quick };
          trace = at_lists (λ ts cs. OutcomeTrace rules IsOffered Answers ts cs result)
              (ap (λ ts. t.made ∷ ts) (tries_granted rules s.tries)) granted trace;
        }

-- what was told in turn was told to each side
pub told_apart : {A D H W : Type 0} (rules : OutcomeRules A D) (half_tells : H → List A → Type 0)
    (waits_tell : W → List WaitCall → Type 0) (half half' : MutBor H) (waits waits' : MutBor W)
    (Trace : List A → List WaitCall → Type 0) (half_first half_last : H) (waits_first waits_last : W) →
    IsInTurn rules (EachTells half_tells waits_tell half half' waits waits') Trace →
    half.now ≡ half_first → half_last ≡ half'.now → waits.now ≡ waits_first → waits_last ≡ waits'.now →
    IsTraced Trace (half_tells half_first) (half_tells half_last) (waits_tell waits_first) (waits_tell waits_last)
told_apart rules half_tells waits_tell half half' waits waits' Trace half_first half_last waits_first waits_last t
    half_is half_ends waits_are waits_end =
    record {
      tries = tries_in t.events;
      calls = calls_in t.events;
      trace = t.trace;
      half_tells = subst (λ h. Tells (half_tells half_first) (half_tells h) (tries_in t.events)) (sym half_ends)
          (subst (λ h. Tells (half_tells h) (half_tells half'.now) (tries_in t.events)) half_is t.went.tries);
      waits_tell = subst (λ w. Tells (waits_tell waits_first) (waits_tell w) (calls_in t.events)) (sym waits_end)
          (subst (λ w. Tells (waits_tell w) (waits_tell waits'.now) (calls_in t.events)) waits_are t.went.calls);
    }

-- an empty list isn't one with a try in it
pub no_try_in_none : {A : Type 0} (newer older : List A) (made : A) → [] ≡ newer ++ (made ∷ older) → ⊥
no_try_in_none [] older made is = cc
no_try_in_none (newest ∷ newer) older made is = cc

-- what holds of each try holds of one among them
pub try_among : {A : Type 0} (Holds : A → List A → Type 0) (newer older : List A) (made : A) →
    EachTry Holds (newer ++ (made ∷ older)) → Holds made older
try_among Holds [] older made each = each.0
try_among Holds (newest ∷ newer) older made each = try_among Holds newer older made each.1

-- what holds of each try holds of each of the older ones
pub each_older : {A : Type 0} (Holds : A → List A → Type 0) (newer older : List A) → EachTry Holds (newer ++ older) →
    EachTry Holds older
each_older Holds [] older each = each
each_older Holds (newest ∷ newer) older each = each_older Holds newer older each.1

module _ {A D R : Type 0} (rules : OutcomeRules A D) (IsOffered : A → List A → Type 0)
    (Answers : Next D → List A → R → Type 0) (tries : List A) (calls : List WaitCall) (result : R) where
  -- each try of a trace was offered what it had to be
  pub each_offered : OutcomeTrace rules IsOffered Answers tries calls result → EachTry IsOffered tries
  each_offered (Refused refusal no_tries asked answer) = subst (EachTry IsOffered) (sym no_tries) tt
  each_offered (WaitRefused refusal newest earlier are blocks undecided offered asked answer) = offered
  each_offered (Decided newest earlier are undecided decisive offered asked answer) = offered

  -- a try that leaves the list not inconclusive is the newest
  pub decisive_is_newest : ((newer older : List A) → IsTrue (rules.is_inconclusive (newer ++ older)) →
      IsTrue (rules.is_inconclusive older))
      → (newer older : List A) (made : A) → OutcomeTrace rules IsOffered Answers tries calls result →
      tries ≡ newer ++ (made ∷ older) → IsFalse (rules.is_inconclusive (made ∷ older)) → newer ≡ []
  decisive_is_newest of_older newer older made (Refused refusal no_tries asked answer) is decisive =
      absurd (no_try_in_none newer older made (sym no_tries ∙ is))
  decisive_is_newest of_older newer older made (WaitRefused refusal newest earlier are blocks undecided offered asked
      answer) is decisive =
      absurd (let inconclusive = of_older newer (made ∷ older)
      (subst (λ ts. IsTrue (rules.is_inconclusive ts)) is undecided) in cc)
  decisive_is_newest of_older [] older made (Decided newest earlier are undecided last offered asked answer) is decisive
      = refl
  decisive_is_newest of_older (next ∷ newer) older made
      (Decided newest earlier are undecided last offered asked answer) is decisive =
      absurd (let same : earlier ≡ newer ++ (made ∷ older) = cc (sym are ∙ is) in
      let inconclusive = of_older newer (made ∷ older)
      (subst (λ ts. IsTrue (rules.is_inconclusive ts)) same undecided) in cc)
