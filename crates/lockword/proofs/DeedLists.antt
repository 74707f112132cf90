-- The list of deeds that stands behind a list of operations, and its parts.
use Rattle.std.proofs.Common.{◌≡◌, ◌+◌, ◌<◌, ◌∙◌, [], ◌∷◌, ◌++◌, ⊎_elim}
use Rattle.std.specs.Prelude.{◌==◌, count_by, if◌then◌else◌}
use Rattle.std.specs.List.{All, Contains}
use Rattle.std.proofs.lemmas.List.Elements.{All-cons, Contains-append_cases, Contains-append_left, Contains-append_right}
use mathlib.Core.List.{head-eq_of_cons-eq, tail-eq_of_cons-eq}
use Rattle.lockword.proofs.Words.{ℕ, zero, suc, Bool, true, false, List, refl, sym, ap, subst, arith, Op, Answer}
use Rattle.lockword.proofs.Words.{Event, bit}
use Rattle.lockword_core.proofs.Words.{LockState, empty, census, references, lasts, number, IsConsistent, transition}
use Rattle.lockword_core.proofs.Words.{state_after, answers_of}
use Rattle.lockword_core.specs.declared.stake.Op.TheVariants as op
use Rattle.lockword_core.specs.declared.stake.Answer.TheVariants as answer
use Rattle.lockword_core.specs.OperationCounts.{is_close, is_drain, is_destroy, is_refusal, NoneRefused, made_in}
use Rattle.lockword_core.specs.OperationCounts.{operations_of}
use Rattle.lockword_core.specs.Laws.{ReturnedTheLast}
use Rattle.lockword_core.proofs.CountLemmas.{count-nil}
use Rattle.lockword_core.proofs.StateLemmas.{transition_consistent, empty_consistent}
use Rattle.lockword_core.proofs.ReplayLemmas.{always_consistent}
use Rattle.lockword_core.proofs.OperationLemmas.{count_by-cons, count_by-push, adds_up, none_refused-push, destroyer}
use Rattle.lockword.specs.Headline.{Act, answers_to, done_by, is, times, HaveLeft}
use Rattle.lockword.proofs.DeedSteps.{tells_deed}
use Rattle.lockword.proofs.HistorySteps.{same_number}

abbrev deed : LockState → Event → Act
deed s e = record { seat = e.holder; op = e.op; answer = (transition s e.holder e.op).1 }

-- the operations of a list, each with its answer
abbrev pub deeds_from : LockState → List Event → List Act
deeds_from s [] = []
deeds_from s (e ∷ events) = deed s e ∷ deeds_from (transition s e.holder e.op).0 events

pub same_deeds_by : (seat : ℕ) (s : LockState) (events : List Event)
    → done_by seat (deeds_from s events) ≡ operations_of seat events
same_deeds_by seat s [] = refl
same_deeds_by seat s (e ∷ events) =
    let rest = same_deeds_by seat (transition s e.holder e.op).0 events in
    ap (λ (ops : List Op). if e.holder == seat then e.op ∷ ops else ops) rest

-- ---- What a list adds up to

no_bit : (b : Bool) (n : ℕ) → bit b + n ≡ 0 → b ≡ false
no_bit true n e = absurd (omega arith)
no_bit false n e = refl

-- the first of a list of which none is refused, and the rest
none_refused-cons : (s : LockState) (e : Event) (events : List Event)
    → count_by is_refusal (answers_of s (e ∷ events)) ≡ 0
    → (is_refusal (transition s e.holder e.op).1 ≡ false)
    × (count_by is_refusal (answers_of (transition s e.holder e.op).0 events) ≡ 0)
none_refused-cons s e events none =
    let sum = count_by-cons is_refusal (transition s e.holder e.op).1
    (answers_of (transition s e.holder e.op).0 events) in
    (no_bit _ _ (sym sum ∙ none), omega arith)

pub times-cons : (a : Answer) (d : Act) (ds : List Act) → times a (d ∷ ds) ≡ bit (is a d.answer) + times a ds
times-cons a d ds = count_by-cons (λ (x : Act). is a x.answer) d ds

pub times-push : (a : Answer) (ds : List Act) (d : Act) → times a (ds ++ d ∷ []) ≡ times a ds + bit (is a d.answer)
times-push a ds d = count_by-push (λ (x : Act). is a x.answer) ds d

pub record DeedsAdd (s : LockState) (events : List Event) : Type 0 where
  pub fits : All (λ (d : Act). Contains (answers_to d.op) d.answer) (deeds_from s events)
  pub closes : times answer.Closing (deeds_from s events) ≡ made_in events is_close
  pub drains : times answer.Drained (deeds_from s events) ≡ made_in events is_drain
  pub destroys : times answer.Done (deeds_from s events) ≡ made_in events is_destroy
  pub refs : times answer.Held (deeds_from s events) + times answer.Closing (deeds_from s events)
      + number references (census s)
      ≡ number references (census (state_after s events)) + times answer.Kept (deeds_from s events)
      + times answer.Owes (deeds_from s events) + times answer.Last (deeds_from s events)
  pub duties : number lasts (census s) + times answer.Last (deeds_from s events)
      ≡ number lasts (census (state_after s events)) + times answer.Done (deeds_from s events)

pub deeds_add : (s : LockState) (events : List Event) → IsConsistent s
    → count_by is_refusal (answers_of s events) ≡ 0 → DeedsAdd s events
deeds_add s [] good none =
    record {
      fits = λ k d inside. absurd (omega arith);
      closes = refl;
      drains = refl;
      destroys = refl;
      refs = omega arith;
      duties = omega arith;
    }
deeds_add s (e ∷ events) good none =
    let next : LockState = (transition s e.holder e.op).0 in
    let parts = none_refused-cons s e events none in
    let one = tells_deed s e.holder e.op good parts.0 in
    let rest = deeds_add next events (transition_consistent s e.holder e.op good) parts.1 in
    let more : (what : Op → Bool) → made_in (e ∷ events) what ≡ bit (what e.op) + made_in events what =
    λ what. count_by-cons (λ (x : Event). what x.op) e events in
    let adds : (a : Answer) → times a (deeds_from s (e ∷ events))
    ≡ bit (is a (transition s e.holder e.op).1) + times a (deeds_from next events) =
    λ a. times-cons a (deed s e) (deeds_from next events) in
    record {
      fits = All-cons (λ (d : Act). Contains (answers_to d.op) d.answer) (deed s e) (deeds_from next events) one.fits
          rest.fits;
      closes = let a = ap bit one.closes in let b = rest.closes in let c = more is_close in
          let d = adds answer.Closing in omega arith;
      drains = let a = ap bit one.drains in let b = rest.drains in let c = more is_drain in
          let d = adds answer.Drained in omega arith;
      destroys = let a = ap bit one.destroys in let b = rest.destroys in let c = more is_destroy in
          let d = adds answer.Done in omega arith;
      refs = let a = one.refs in let b = rest.refs in let held = adds answer.Held in
          let closing = adds answer.Closing in let kept = adds answer.Kept in let owes = adds answer.Owes in
          let last = adds answer.Last in omega arith;
      duties = let a = one.duties in let b = rest.duties in let last = adds answer.Last in
          let done = adds answer.Done in omega arith;
    }

-- ---- The parts of a list

-- a list of deeds is cut at one of them
record Cut (s : LockState) (events : List Event) (early : List Act) (d : Act) : Type 0 where
  front : List Event
  event : Event
  early_is : early ≡ deeds_from s front
  this : d ≡ deed (state_after s front) event
  unrefused : count_by is_refusal (answers_of s front) ≡ 0
  made : is_refusal (transition (state_after s front) event.holder event.op).1 ≡ false

cut : (s : LockState) (events : List Event) (early late : List Act) (d : Act)
    → count_by is_refusal (answers_of s events) ≡ 0 → deeds_from s events ≡ early ++ d ∷ late → Cut s events early d
cut s [] [] late d none e = absurd (cc)
cut s [] (x ∷ early) late d none e = absurd (cc)
cut s (event ∷ events) [] late d none e =
    record {
      front = [];
      event = event;
      early_is = refl;
      this = sym (head-eq_of_cons-eq e);
      unrefused = refl;
      made = (none_refused-cons s event events none).0;
    }
cut s (event ∷ events) (x ∷ early) late d none e =
    let parts = none_refused-cons s event events none in
    let next : LockState = (transition s event.holder event.op).0 in
    let rest = cut next events early late d parts.1 (tail-eq_of_cons-eq e) in
    record {
      front = event ∷ rest.front;
      event = rest.event;
      early_is = ap (λ (y : Act). y ∷ early) (sym (head-eq_of_cons-eq e))
          ∙ ap (λ (ys : List Act). deed s event ∷ ys) rest.early_is;
      this = rest.this;
      unrefused = let sum = count_by-cons is_refusal (transition s event.holder event.op).1
          (answers_of next rest.front) in let none_here = ap bit parts.0 in let none_there = rest.unrefused in
          omega arith;
      made = rest.made;
    }

-- with `Last` the last reference of a closed word went back
pub last_is_last : (events : List Event) (early late : List Act) (d : Act) → NoneRefused events
    → deeds_from empty events ≡ early ++ d ∷ late → d.answer ≡ answer.Last
    → (times answer.Closing early ≡ 1) × HaveLeft (early ++ d ∷ []) 0
last_is_last events early late d none whole last =
    let at = cut empty events early late d none whole in
    let s : LockState = state_after empty at.front in
    let add = deeds_add empty at.front empty_consistent at.unrefused in
    let told = tells_deed s at.event.holder at.event.op (always_consistent at.front) at.made in
    let over = told.last (sym (ap (λ (x : Act). x.answer) at.this) ∙ last) in
    let sums = adds_up at.front at.unrefused in
    let shut = ap bit over.0 in
    let front_is : (a : Answer) → times a early ≡ times a (deeds_from empty at.front) = λ a. ap (times a) at.early_is in
    let push : (a : Answer) → times a (early ++ d ∷ []) ≡ times a early + bit (is a answer.Last) =
    λ a. times-push a early d ∙ ap (λ (x : Answer). times a early + bit (is a x)) last in
    let closing = front_is answer.Closing in (
      let one = add.closes in let is_shut = sums.closed in omega arith,
      let refs = add.refs in
          let one = over.1 in
          let held = front_is answer.Held in
          let kept = front_is answer.Kept in
          let owes = front_is answer.Owes in
          let lasts = front_is answer.Last in
          let more_held = push answer.Held in
          let more_closing = push answer.Closing in
          let more_kept = push answer.Kept in
          let more_owes = push answer.Owes in
          let more_lasts = push answer.Last in
          let none_at_first = count-nil references in
          omega arith,
    )

-- ---- Who destroyed

made_last : (events : List Event) (e : Event) (b : Bool) → (e.holder == e.holder) ≡ true → is_destroy e.op ≡ true
    → 0 < count_by is_destroy (operations_of e.holder (events ++ e ∷ []))
made_last [] e b same is =
    let here : operations_of e.holder (e ∷ []) ≡ e.op ∷ [] =
    ap (λ (t : Bool). if t then e.op ∷ [] else []) same in
    let one = ap (count_by is_destroy) here in
    let sum = count_by-cons is_destroy e.op [] in
    let yes = ap bit is in
    omega arith
made_last (x ∷ events) e b same is =
    by (x.holder == e.holder) (made_last events e b same is)
  where
    by : (t : Bool) → 0 < count_by is_destroy (operations_of e.holder (events ++ e ∷ []))
        → 0 < count_by is_destroy (if t then x.op ∷ operations_of e.holder (events ++ e ∷ [])
        else operations_of e.holder (events ++ e ∷ []))
    by true rest =
        let sum = count_by-cons is_destroy x.op (operations_of e.holder (events ++ e ∷ [])) in omega arith
    by false rest = rest

deeds_push : (s : LockState) (events : List Event) (e : Event)
    → deeds_from s (events ++ e ∷ []) ≡ deeds_from s events ++ deed (state_after s events) e ∷ []
deeds_push s [] e = refl
deeds_push s (x ∷ events) e =
    ap (λ (rest : List Act). deed s x ∷ rest) (deeds_push (transition s x.holder x.op).0 events e)

-- the deed of one event among others
among : (s : LockState) (early : List Event) (e : Event) (later : List Event)
    → Contains (deeds_from s (early ++ e ∷ later)) (deed (state_after s early) e)
among s [] e later =
    Contains-append_left (deed s e ∷ []) (deeds_from (transition s e.holder e.op).0 later) (deed s e)
    (0, omega arith, refl)
among s (x ∷ early) e later =
    Contains-append_right (deed s x ∷ []) (deeds_from (transition s x.holder x.op).0 (early ++ e ∷ later)) _
    (among (transition s x.holder x.op).0 early e later)

-- who destroys was answered `Last` before
pub destroyer_was_last : (events : List Event) (early late : List Act) (d : Act) → NoneRefused events
    → deeds_from empty events ≡ early ++ d ∷ late → d.op ≡ op.Destroy
    → (o : Op) × Contains early (record { seat = d.seat; op = o; answer = answer.Last })
destroyer_was_last events early late d none whole destroys =
    let at = cut empty events early late d none whole in
    let s : LockState = state_after empty at.front in
    let e : Event = at.event in
    let told = tells_deed s e.holder e.op (always_consistent at.front) at.made in
    let is : is_destroy e.op ≡ true = ap (λ (x : Act). is_destroy x.op) (sym at.this) ∙ ap is_destroy destroys in
    let own : d.seat ≡ e.holder = ap (λ (x : Act). x.seat) at.this in
    let r : ReturnedTheLast (at.front ++ e ∷ []) e.holder =
    destroyer (at.front ++ e ∷ []) e.holder (none_refused-push at.front e at.unrefused at.made)
    (made_last at.front e true (same_number e.holder) is) in
    let found : Act = record { seat = e.holder; op = r.op; answer = answer.Last } in
    let there : Contains (deeds_from empty (r.earlier ++ record { holder = e.holder; op = r.op } ∷ r.later)) found =
    subst (λ (a : Answer). Contains (deeds_from empty (r.earlier ++ record { holder = e.holder; op = r.op } ∷ r.later))
    (record { seat = e.holder; op = r.op; answer = a })) r.answered
    (among empty r.earlier (record { holder = e.holder; op = r.op }) r.later) in
    let inside : Contains (deeds_from empty at.front ++ deed s e ∷ []) found =
    subst (λ (ds : List Act). Contains ds found) (deeds_push empty at.front e)
    (subst (λ (xs : List Event). Contains (deeds_from empty xs) found) (sym r.among) there) in
    let before : Contains (deeds_from empty at.front) found =
    ⊎_elim (λ here. here)
    (λ last. let wrong = not_done (is_only (deed s e) found last) (told.destroys ∙ is) in absurd (cc))
    (Contains-append_cases (deeds_from empty at.front) (deed s e ∷ []) found inside) in (
      r.op,
      subst (λ (q : ℕ). Contains early (record { seat = q; op = r.op; answer = answer.Last })) (sym own)
          (subst (λ (ds : List Act). Contains ds found) (sym at.early_is) before),
    )
  where
    is_only : (x y : Act) → Contains (x ∷ []) y → x ≡ y
    is_only x y (zero, inside, e) = e
    is_only x y (suc k, inside, e) = absurd (omega arith)

    not_done : {x y : Act} → x ≡ y → is answer.Done x.answer ≡ true → is answer.Done y.answer ≡ true
    not_done same done = subst (λ (z : Act). is answer.Done z.answer ≡ true) same done
