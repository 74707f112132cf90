-- What operations add up to, where none is refused.
use Rattle.std.proofs.Common.{◌≡◌, ◌+◌, ◌<◌, ◌∙◌, [], ◌∷◌, ◌++◌}
use Rattle.std.specs.Prelude.{◌==◌, count_by, if◌then◌else◌}
use Rattle.std.proofs.lemmas.List.Sums.{sum_by-cons, sum_by_push}
use Rattle.lockword_core.proofs.Words.{ℕ, Bool, true, false, List, refl, sym, ap, subst, arith, Some, cond, values_of}
use Rattle.lockword_core.proofs.Words.{nat_cmp, insert_entry, Dir, Read, Write, Event, Stake, Op, bit, signals_in}
use Rattle.lockword_core.proofs.Words.{LockState, empty, Census, census, stake_of, references, queued, number}
use Rattle.lockword_core.proofs.Words.{IsConsistent, Change, nothing, closes, drains, adds_signal, takes_signal}
use Rattle.lockword_core.proofs.Words.{destroys}
use Rattle.lockword_core.proofs.Words.{Outcome, refused, moved, outcome, changed, with_stake, with_change, carried_out}
use Rattle.lockword_core.proofs.Words.{transition, state_after, answers_of}
use Rattle.lockword_core.specs.declared.stake.Stake.TheVariants as stake
use Rattle.lockword_core.specs.declared.stake.Op.TheVariants as op
use Rattle.lockword_core.specs.LockState.{count}
use Rattle.lockword_core.specs.OperationCounts.{is_taking, is_returning, is_signal, is_wake, is_close, is_drain}
use Rattle.lockword_core.specs.OperationCounts.{is_destroy, is_refusal, NoneRefused, made_in, operations_of, AddsUp}
use Rattle.lockword_core.specs.Laws.{ReturnedTheLast}
use Rattle.lockword_core.proofs.CountLemmas.{count-nil, changes-insert, moves}
use Rattle.lockword_core.proofs.FieldSteps.{same_numbers}
use Rattle.lockword_core.proofs.StateLemmas.{transition_consistent, census-change, empty_consistent}
use Rattle.lockword_core.proofs.ReplayLemmas.{answers_of-push}
use Rattle.lockword_core.proofs.EndCounts.{TellsEnds, tells_ends, no_mark_yet, mark-change}
use Rattle.lockword_core.proofs.EndHolders.{destroyer_returned}
use Rattle.lockword_core.proofs.ForGood.{destroyed_for_good}
use Rattle.lockword_core.proofs.OperationAdds.{Adding, adds, closed_after, draining_after, signals_after}

-- ---- What a list of operations adds

abbrev had_in : Census → ℕ
had_in c = number references c + number (queued Read) c + number (queued Write) c

record AddsOn (made : (Op → Bool) → ℕ) (b c : Census) : Type 0 where
  taken : made is_taking + had_in b ≡ had_in c + made is_returning
  signalled : (d : Dir) → made (is_signal d) + signals_in d b.signals ≡ signals_in d c.signals + made (is_wake d)
  closed : made is_close + bit b.closed ≡ bit c.closed
  drained : made is_drain + bit b.draining ≡ bit c.draining
  destroyed : made is_destroy + bit b.destroyed ≡ bit c.destroyed

changed_signals : (c : Census) (ys : List Stake) (change : Change)
    → (changed c ys change).signals ≡ signals_after c.signals change
changed_signals c ys nothing = refl
changed_signals c ys closes = refl
changed_signals c ys drains = refl
changed_signals c ys (adds_signal d) = refl
changed_signals c ys (takes_signal d) = refl
changed_signals c ys destroys = refl

changed_flag : (c : Census) (ys : List Stake) (change : Change)
    → (changed c ys change).closed ≡ closed_after c.closed change
changed_flag c ys nothing = refl
changed_flag c ys closes = refl
changed_flag c ys drains = refl
changed_flag c ys (adds_signal d) = refl
changed_flag c ys (takes_signal d) = refl
changed_flag c ys destroys = refl

changed_drain : (c : Census) (ys : List Stake) (change : Change)
    → (changed c ys change).draining ≡ draining_after c.draining change
changed_drain c ys nothing = refl
changed_drain c ys closes = refl
changed_drain c ys drains = refl
changed_drain c ys (adds_signal d) = refl
changed_drain c ys (takes_signal d) = refl
changed_drain c ys destroys = refl

changed_stakes : (c : Census) (ys : List Stake) (change : Change) → (changed c ys change).stakes ≡ ys
changed_stakes c ys nothing = refl
changed_stakes c ys closes = refl
changed_stakes c ys drains = refl
changed_stakes c ys (adds_signal d) = refl
changed_stakes c ys (takes_signal d) = refl
changed_stakes c ys destroys = refl

-- one operation that is not refused
carried_adds : (s : LockState) (holder : ℕ) (o : Op) (x : Outcome) → IsConsistent s → TellsEnds (stake_of s holder) x
    → Adding (census s) (stake_of s holder) o x → is_refusal (carried_out s holder x).1 ≡ false
    → AddsOn (λ what. bit (what o)) (census s) (census (carried_out s holder x).0)
carried_adds s holder o (refused a) good ends is not_refused = absurd (cc)
carried_adds s holder o (moved a new change) good ends (passes, one) not_refused =
    let c : Census = census s in
    let ys : List Stake = values_of (insert_entry nat_cmp s.holders holder new) in
    let next = census (with_change (with_stake s holder new) holder change) in
    let same = census-change s holder new change in
    let counted = moves c.stakes ys (stake_of s holder) new (changes-insert s.holders holder new good.names) in
    let refs = counted references in
    let readers = counted (queued Read) in
    let writers = counted (queued Write) in
    let marked = mark-change (with_stake s holder new) holder change (no_mark_yet s holder change good ends.2) in
    let stakes_are : next.stakes ≡ ys = ap (λ (x : Census). x.stakes) same ∙ changed_stakes c ys change in
    let refs_are = ap (count references) stakes_are in
    let readers_are = ap (count (queued Read)) stakes_are in
    let writers_are = ap (count (queued Write)) stakes_are in
    record {
      taken = let moved_on = one.taken in omega arith;
      signalled = λ d. one.signalled d ∙ ap (λ (x : ℕ). x + bit (is_wake d o))
          (sym (ap (λ (x : Census). signals_in d x.signals) same ∙ ap (signals_in d) (changed_signals c ys change)));
      closed = one.closed ∙ sym (ap (λ (x : Census). bit x.closed) same ∙ ap bit (changed_flag c ys change));
      drained = one.drained ∙ sym (ap (λ (x : Census). bit x.draining) same ∙ ap bit (changed_drain c ys change));
      destroyed = let sorted = ap bit one.destroyed in omega arith;
    }

transition_adds : (s : LockState) (holder : ℕ) (o : Op) → IsConsistent s
    → is_refusal (transition s holder o).1 ≡ false
    → AddsOn (λ what. bit (what o)) (census s) (census (transition s holder o).0)
transition_adds s holder o good not_refused =
    carried_adds s holder o (outcome (census s) (stake_of s holder) o) good
    (tells_ends (census s) (stake_of s holder) o) (adds (census s) (stake_of s holder) o) not_refused

cond-bit : (t : Bool) → cond t 1 0 ≡ bit t
cond-bit true = refl
cond-bit false = refl

pub count_by-cons : {A : Type 0} (p : A → Bool) (x : A) (xs : List A) → count_by p (x ∷ xs) ≡ bit (p x) + count_by p xs
count_by-cons p x xs = sum_by-cons (λ y. cond (p y) 1 0) x xs ∙ ap (λ (n : ℕ). n + count_by p xs) (cond-bit (p x))

pub count_by-push : {A : Type 0} (p : A → Bool) (xs : List A) (x : A)
    → count_by p (xs ++ x ∷ []) ≡ count_by p xs + bit (p x)
count_by-push p xs x = sum_by_push (λ y. cond (p y) 1 0) xs x ∙ ap (λ (n : ℕ). count_by p xs + n) (cond-bit (p x))

no_bit : (b : Bool) (n : ℕ) → bit b + n ≡ 0 → b ≡ false
no_bit true n e = absurd (omega arith)
no_bit false n e = refl

-- the first of a list of which none is refused, and the rest
none_refused-cons : (s : LockState) (e : Event) (events : List Event) → count_by is_refusal (answers_of s (e ∷ events))
    ≡ 0
    → (is_refusal (transition s e.holder e.op).1 ≡ false)
    × (count_by is_refusal (answers_of (transition s e.holder e.op).0 events) ≡ 0)
none_refused-cons s e events none =
    let sum = count_by-cons is_refusal (transition s e.holder e.op).1
    (answers_of (transition s e.holder e.op).0 events) in
    (no_bit _ _ (sym sum ∙ none), omega arith)

along : (s : LockState) (events : List Event) → IsConsistent s → count_by is_refusal (answers_of s events) ≡ 0
    → AddsOn (made_in events) (census s) (census (state_after s events))
along s [] good none =
    record {
      taken = omega arith;
      signalled = λ d. omega arith;
      closed = omega arith;
      drained = omega arith;
      destroyed = omega arith;
    }
along s (e ∷ events) good none =
    let parts = none_refused-cons s e events none in
    let one = transition_adds s e.holder e.op good parts.0 in
    let rest = along (transition s e.holder e.op).0 events (transition_consistent s e.holder e.op good) parts.1 in
    let more : (what : Op → Bool) → made_in (e ∷ events) what ≡ bit (what e.op) + made_in events what =
    λ what. count_by-cons (λ (x : Event). what x.op) e events in
    record {
      taken = let a = one.taken in let b = rest.taken in let c = more is_taking in let d = more is_returning in
          omega arith;
      signalled = λ way. let a = one.signalled way in let b = rest.signalled way in let c = more (is_signal way) in
          let d = more (is_wake way) in omega arith;
      closed = let a = one.closed in let b = rest.closed in let c = more is_close in omega arith;
      drained = let a = one.drained in let b = rest.drained in let c = more is_drain in omega arith;
      destroyed = let a = one.destroyed in let b = rest.destroyed in let c = more is_destroy in omega arith;
    }

pub adds_up : (events : List Event) → NoneRefused events → AddsUp (made_in events) (census (state_after empty events))
adds_up events none =
    let all = along empty events empty_consistent none in
    record {
      taken = let a = all.taken in
          omega (arith, count-nil references, count-nil (queued Read), count-nil (queued Write));
      signalled = λ d. let a = all.signalled d in let b = no_signals d in omega arith;
      closed = let a = all.closed in omega arith;
      drained = let a = all.drained in omega arith;
      destroyed = let a = all.destroyed in omega arith;
    }
  where
    no_signals : (d : Dir) → signals_in d (census empty).signals ≡ 0
    no_signals Read = refl
    no_signals Write = refl

-- one event more, which is not refused
pub none_refused-push : (events : List Event) (e : Event) → NoneRefused events
    → is_refusal (transition (state_after empty events) e.holder e.op).1 ≡ false → NoneRefused (events ++ e ∷ [])
none_refused-push events e none not_refused =
    let more = count_by-push is_refusal (answers_of empty events)
    (transition (state_after empty events) e.holder e.op).1 in
    let no = ap bit not_refused in
    ap (count_by is_refusal) (answers_of-push empty events e) ∙ (omega arith)

-- ---- Who destroyed

own_more : (t : Bool) (holder : ℕ) (o : Op) (ops : List Op)
    → count_by is_destroy (if t then o ∷ ops else ops) ≡ (if t then bit (is_destroy o) else 0) + count_by is_destroy ops
own_more true holder o ops = count_by-cons is_destroy o ops
own_more false holder o ops = omega arith

is_the_destroy : (o : Op) → is_destroy o ≡ true → o ≡ op.Destroy
is_the_destroy op.Destroy e = refl
is_the_destroy op.Incref e = absurd (cc)
is_the_destroy op.Decref e = absurd (cc)
is_the_destroy (op.Lock d) e = absurd (cc)
is_the_destroy (op.Unlock d) e = absurd (cc)
is_the_destroy (op.Signal d) e = absurd (cc)
is_the_destroy (op.Wake d) e = absurd (cc)
is_the_destroy op.Close e = absurd (cc)
is_the_destroy op.Drain e = absurd (cc)

-- a destroy that is not refused marks its holder
destroy_marks : (s : LockState) (holder : ℕ) → is_refusal (transition s holder op.Destroy).1 ≡ false
    → (transition s holder op.Destroy).0.destroyed_by ≡ Some holder
destroy_marks s holder not_refused = by (stake_of s holder) refl
  where
    refuses : (own : Stake) → stake_of s holder ≡ own
        → is_refusal (carried_out s holder (outcome (census s) own op.Destroy)).1 ≡ true → ⊥
    refuses own e wrong =
        let here = ap (λ (x : Stake). is_refusal (carried_out s holder (outcome (census s) x op.Destroy)).1) e in
        absurd (cc)

    by : (own : Stake) → stake_of s holder ≡ own → (transition s holder op.Destroy).0.destroyed_by ≡ Some holder
    by stake.Last e = ap (λ (x : Stake). (carried_out s holder (outcome (census s) x op.Destroy)).0.destroyed_by) e
    by stake.Free e = absurd (refuses stake.Free e refl)
    by stake.Ref e = absurd (refuses stake.Ref e refl)
    by stake.Read e = absurd (refuses stake.Read e refl)
    by stake.Write e = absurd (refuses stake.Write e refl)
    by (stake.Waits d) e = absurd (refuses (stake.Waits d) e refl)
    by (stake.Owes d) e = absurd (refuses (stake.Owes d) e refl)
    by (stake.Closing r w) e = absurd (refuses (stake.Closing r w) e refl)
    by (stake.Drains r w) e = absurd (refuses (stake.Drains r w) e refl)

destroyer_along : (s : LockState) (events : List Event) (q : ℕ) → IsConsistent s
    → count_by is_refusal (answers_of s events) ≡ 0 → 0 < count_by is_destroy (operations_of q events)
    → (state_after s events).destroyed_by ≡ Some q
destroyer_along s [] q good none some = absurd (omega arith)
destroyer_along s (e ∷ events) q good none some =
    by_holder (λ more. destroyer_along next events q fine parts.1 more) (e.holder == q) refl (is_destroy e.op) refl
  where
    next : LockState
    next = (transition s e.holder e.op).0

    fine : IsConsistent next
    fine = transition_consistent s e.holder e.op good

    parts : (is_refusal (transition s e.holder e.op).1 ≡ false) × (count_by is_refusal (answers_of next events) ≡ 0)
    parts = none_refused-cons s e events none

    by_holder : (0 < count_by is_destroy (operations_of q events) → (state_after next events).destroyed_by ≡ Some q)
        → (t : Bool) → (e.holder == q) ≡ t → (u : Bool) → is_destroy e.op ≡ u → (state_after next events).destroyed_by
        ≡ Some q
    by_holder later true same true is =
        let marked : next.destroyed_by ≡ Some e.holder =
        subst (λ (o : Op). is_refusal (transition s e.holder o).1 ≡ false → (transition s e.holder o).0.destroyed_by
        ≡ Some e.holder) (sym (is_the_destroy e.op is)) (destroy_marks s e.holder) parts.0 in
        destroyed_for_good next events q fine (marked ∙ ap (λ (n : ℕ). Some n) (same_numbers e.holder q same))
    by_holder later true same false other =
        let sum = own_more true q e.op (operations_of q events) in
        let none_here = ap bit other in
        later (subst (λ (t : Bool). 0
        < count_by is_destroy (if t then e.op ∷ operations_of q events else operations_of q events)
        → 0 < count_by is_destroy (operations_of q events)) (sym same) (λ all. omega arith) some)
    by_holder later false differs u is =
        later (subst (λ (t : Bool). 0
        < count_by is_destroy (if t then e.op ∷ operations_of q events else operations_of q events)
        → 0 < count_by is_destroy (operations_of q events)) (sym differs) (λ all. all) some)

pub destroyer : (events : List Event) (q : ℕ) → NoneRefused events → 0 < count_by is_destroy (operations_of q events)
    → ReturnedTheLast events q
destroyer events q none some = destroyer_returned events q (destroyer_along empty events q empty_consistent none some)
