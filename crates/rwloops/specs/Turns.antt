-- The tries of one call and its calls on waits, in one order. Lists are newest first.
use Rattle.std.specs.Prelude.{◌≡◌, refl, List, [], ◌∷◌, ◌++◌, Result, Ok, IsTrue, IsFalse}
use Rattle.std.specs.Borrow.{MutBor}
use Rattle.base_types.specs.declared.direction.Dir.{Dir}
use Rattle.deadline_core.specs.declared.refusal.Refusal.{Refusal}
use Rattle.rwloops.specs.Waits.{WaitCall, Prepared, Waited, Tells}
use Rattle.rwloops.specs.declared.retries.Next.{Next}
use Rattle.rwloops.specs.OutcomeTrace.{OutcomeRules, EachTry, next_after, is_open}

-- one event of a call: a try of its half, or a call on its waits
pub data Event (A : Type 0) : Type 0 where
  Tried : (made : A) → Event A
  Asked : (call : WaitCall) → Event A

-- the tries among the events
abbrev pub tries_in : {A : Type 0} → List (Event A) → List A
tries_in [] = []
tries_in (Tried made ∷ earlier) = made ∷ tries_in earlier
tries_in (Asked call ∷ earlier) = tries_in earlier

-- the calls on waits among the events
abbrev pub calls_in : {A : Type 0} → List (Event A) → List WaitCall
calls_in [] = []
calls_in (Tried made ∷ earlier) = calls_in earlier
calls_in (Asked call ∷ earlier) = call ∷ calls_in earlier

-- the event may come right after these: a prepare comes first, a wait right after a try that
-- blocks, a try right after a prepare or a wait that was granted or a try that doesn't block
abbrev pub ComesAfter : {A D : Type 0} → OutcomeRules A D → Event A → List (Event A) → Type 0
ComesAfter rules (Asked (Prepared dir answer)) [] = dir ≡ rules.dir
ComesAfter rules (Asked (Waited dir answer)) (Tried made ∷ earlier) =
    (dir ≡ rules.dir) × IsTrue (rules.blocks made)
ComesAfter rules (Tried later) (Asked (Prepared dir answer) ∷ earlier) = answer ≡ Ok tt
ComesAfter rules (Tried later) (Asked (Waited dir answer) ∷ earlier) = answer ≡ Ok tt
ComesAfter rules (Tried later) (Tried made ∷ earlier) = IsFalse (rules.blocks made)
ComesAfter rules _ _ = ⊥

-- the last event is no try that blocks, since a wait is still to come then
abbrev pub EndsInTurn : {A D : Type 0} → OutcomeRules A D → List (Event A) → Type 0
EndsInTurn rules (Tried made ∷ earlier) = IsFalse (rules.blocks made)
EndsInTurn rules _ = Unit {0}

-- each event comes right after one that it may follow, and the last may be the last: so each try
-- that blocks is followed by exactly one wait, and nothing comes between
pub record TakesTurns {A D : Type 0} (rules : OutcomeRules A D) (events : List (Event A)) :
    Type 0 where
  pub order : EachTry (ComesAfter rules) events
  pub ends : EndsInTurn rules events

-- these events led to what is now, in turn, and their tries and their calls on waits make up the
-- trace
pub record IsInTurn {A D : Type 0} (rules : OutcomeRules A D) (Went : List (Event A) → Type 0)
    (Trace : List A → List WaitCall → Type 0) : Type 0 where
  pub events : List (Event A)
  pub went : Went events
  pub turns : TakesTurns rules events
  pub trace : Trace (tries_in events) (calls_in events)

-- among events in turn a wait comes right after each try that blocks, and a try that blocks right
-- before each wait
pub record HasOneWaitEach {A D : Type 0} (rules : OutcomeRules A D) : Type 0 where
  pub after : (events newer older : List (Event A)) (made : A) → TakesTurns rules events →
      events ≡ newer ++ (Tried made ∷ older) → IsTrue (rules.blocks made) →
      (rest : List (Event A)) × (answer : Result (Unit {0}) Refusal)
      × (newer ≡ rest ++ (Asked (Waited rules.dir answer) ∷ []))
  pub before : (events newer older : List (Event A)) (dir : Dir)
      (answer : Result (Unit {0}) Refusal) → TakesTurns rules events →
      events ≡ newer ++ (Asked (Waited dir answer) ∷ older) →
      (made : A) × (earlier : List (Event A)) × (older ≡ Tried made ∷ earlier)
      × IsTrue (rules.blocks made)

-- one turn of a call: one try, and what its loop makes of it; only private functions cite it
pub record IsTurn {A D : Type 0} (rules : OutcomeRules A D) (IsOffered Made : A → List A → Type 0)
    (before after : List (Event A) → Type 0) (StandsFor : List A → Type 0) (earlier : List A)
    (next : Next D) : Type 0 where
  pub made : A
  pub told : (events : List (Event A)) → before events → after (Tried made ∷ events)
  pub offered : IsOffered made earlier
  pub holds : Made made earlier
  pub answer : next ≡ next_after rules earlier made
  pub stands : IsTrue (is_open next) → StandsFor (made ∷ earlier)

-- the same half and the same waits, where each tells its own of these events on top of what it told
-- before; only private types cite it
pub record EachTells {A H W : Type 0} (half_tells : H → List A → Type 0)
    (waits_tell : W → List WaitCall → Type 0) (half half_after : MutBor H)
    (waits waits_after : MutBor W) (events : List (Event A)) : Type 0 where
  pub same_half : half.ghost_name ≡ half_after.ghost_name
  pub same_waits : waits.ghost_name ≡ waits_after.ghost_name
  pub tries : Tells (half_tells half.now) (half_tells half_after.now) (tries_in events)
  pub calls : Tells (waits_tell waits.now) (waits_tell waits_after.now) (calls_in events)

-- before the first event
pub nothing_told : {A H W : Type 0} (half_tells : H → List A → Type 0)
    (waits_tell : W → List WaitCall → Type 0) (half : MutBor H) (waits : MutBor W) →
    EachTells half_tells waits_tell half half waits waits []
nothing_told half_tells waits_tell half waits = record {
  same_half = refl;
  same_waits = refl;
  tries = λ earlier h. h;
  calls = λ earlier w. w;
}
