-- Who it was that returned the last reference, and that destroyed.
use Rattle.std.proofs.Common.{◌≡◌, ◌+◌, ◌≤◌, ◌∙◌, [], ◌∷◌, ◌++◌, Ordering, append_assoc, append-nil}
use Rattle.std.specs.Prelude.{◌==◌, ◌&&◌, ◌⊎◌}
use Rattle.std.specs.declared.cmp.Ordering.TheVariants.{Equal, Greater}
use Rattle.std.specs.Ordering.{match_ordering, is_eq}
use Rattle.lockword_core.proofs.Words.{ℕ, Bool, true, false, List, refl, sym, ap, arith, subst, Option, Some, inl, inr}
use Rattle.lockword_core.proofs.Words.{is_some, unwrap_or, cond, Less, nat_cmp, lookup, insert_entry, is_at, nat_tests}
use Rattle.lockword_core.proofs.Words.{Stake, Op, Answer, Event, bit, LockState, empty, census, stake_of}
use Rattle.lockword_core.proofs.Words.{references, lasts, part, number, IsConsistent, Change, nothing, closes, drains}
use Rattle.lockword_core.proofs.Words.{adds_signal, takes_signal, destroys, Outcome, refused, moved, outcome}
use Rattle.lockword_core.proofs.Words.{with_stake, with_change, carried_out, transition, state_after}
use Rattle.lockword_core.specs.declared.stake.Stake.TheVariants as stake
use Rattle.lockword_core.specs.declared.stake.Answer.TheVariants as answer
use Rattle.lockword_core.specs.Laws.{is_last, ReturnedTheLast}
use Rattle.lockword_core.proofs.StateLemmas.{counted_in, transition_consistent, names-change}
use Rattle.lockword_core.proofs.ReplayLemmas.{state_after-append, always_consistent}
use Rattle.lockword_core.proofs.EndCounts.{TellsEnds, is_destroying, is_last_stake, tells_ends}

-- ---- Who it was

pub same_key : (k : ℕ) → is_eq (nat_cmp k k) ≡ true
same_key k = grind (arith, nat_tests)

pub equal_key : (a b : ℕ) → is_eq (nat_cmp a b) ≡ true → a ≡ b
equal_key a b e = grind (arith, nat_tests)

pub other_key : (a b : ℕ) → (a ≡ b → ⊥) → is_eq (nat_cmp a b) ≡ false
other_key a b ne = by (is_eq (nat_cmp a b)) refl
  where
    by : (t : Bool) → is_eq (nat_cmp a b) ≡ t → is_eq (nat_cmp a b) ≡ false
    by false e = e
    by true e = absurd (ne (equal_key a b e))

pub lookup-at : (k : ℕ) (v : Stake) (es : List (ℕ × Stake))
    → lookup (is_at (nat_cmp k)) (insert_entry nat_cmp es k v) ≡ Some v
lookup-at k v [] = rw (same_key k) refl
lookup-at k v (e ∷ es) = by (nat_cmp k e.0) refl (lookup-at k v es)
  where
    by : (o : Ordering) → nat_cmp k e.0 ≡ o → lookup (is_at (nat_cmp k)) (insert_entry nat_cmp es k v) ≡ Some v
        → lookup (is_at (nat_cmp k))
        (match_ordering o ((k, v) ∷ e ∷ es) ((e.0, v) ∷ es) (e ∷ insert_entry nat_cmp es k v)) ≡ Some v
    by Less h rest = rw (same_key k) refl
    by Equal h rest = rw h refl
    by Greater h rest = rw h rest

pub lookup-other : (k q : ℕ) (v : Stake) (es : List (ℕ × Stake)) → is_eq (nat_cmp q k) ≡ false
    → lookup (is_at (nat_cmp q)) (insert_entry nat_cmp es k v) ≡ lookup (is_at (nat_cmp q)) es
lookup-other k q v [] other = rw other refl
lookup-other k q v (e ∷ es) other = by (nat_cmp k e.0) refl (lookup-other k q v es other)
  where
    at_key : nat_cmp k e.0 ≡ Equal → is_eq (nat_cmp q e.0) ≡ false
    at_key h =
        let same : k ≡ e.0 = equal_key k e.0 (ap is_eq h) in subst (λ (n : ℕ). is_eq (nat_cmp q n) ≡ false) same other

    by : (o : Ordering) → nat_cmp k e.0 ≡ o
        → lookup (is_at (nat_cmp q)) (insert_entry nat_cmp es k v) ≡ lookup (is_at (nat_cmp q)) es
        → lookup (is_at (nat_cmp q))
        (match_ordering o ((k, v) ∷ e ∷ es) ((e.0, v) ∷ es) (e ∷ insert_entry nat_cmp es k v))
        ≡ cond (is_eq (nat_cmp q e.0)) (Some e.1) (lookup (is_at (nat_cmp q)) es)
    by Less h rest = rw other refl
    by Equal h rest = rw (at_key h) refl
    by Greater h rest = ap (λ (o : Option Stake). cond (is_eq (nat_cmp q e.0)) (Some e.1) o) rest

-- what holds of a state that these events lead to: each holder with `Last`, and the one that destroyed, returned the
-- last reference
record KnowsTheEnd (events : List Event) (s : LockState) : Type 0 where
  lasts : (holder : ℕ) → stake_of s holder ≡ stake.Last → ReturnedTheLast events holder
  destroyer : (holder : ℕ) → s.destroyed_by ≡ Some holder → ReturnedTheLast events holder

later_on : (events more : List Event) (holder : ℕ) → ReturnedTheLast events holder
    → ReturnedTheLast (events ++ more) holder
later_on events more holder r =
    record {
      earlier = r.earlier;
      op = r.op;
      later = r.later ++ more;
      among = ap (λ (xs : List Event). xs ++ more) r.among
          ∙ append_assoc r.earlier (record { holder = holder; op = r.op } ∷ r.later) more;
      answered = r.answered;
      closed = r.closed;
      unused = r.unused;
    }

still_knows : (events more : List Event) (s : LockState) → KnowsTheEnd events s → KnowsTheEnd (events ++ more) s
still_knows events more s known =
    record {
      lasts = λ holder e. later_on events more holder (known.lasts holder e);
      destroyer = λ holder e. later_on events more holder (known.destroyer holder e);
    }

both_true : (a b : Bool) (n : ℕ) → 1 ≤ n → n ≡ bit (a && b) → (a ≡ true) × (b ≡ true)
both_true true true n some e = (refl, refl)
both_true true false n some e = absurd (omega arith)
both_true false b n some e = absurd (omega arith)

is_zero : (n : ℕ) → (n == 0) ≡ true → n ≡ 0
is_zero n e = grind (arith, nat_tests)

-- a holder with `Last` stands for a closed descriptor without references
closed_and_unused : (s : LockState) (holder : ℕ) → IsConsistent s → stake_of s holder ≡ stake.Last
    → (s.closed ≡ true) × (number references (census s) ≡ 0)
closed_and_unused s holder good e =
    let counted = (counted_in s holder good).at_least lasts in
    let is_one : part lasts (stake_of s holder) ≡ 1 = ap (part lasts) e in
    let both = both_true s.closed (number references (census s) == 0)
    (number lasts (census s) + bit (is_some s.destroyed_by)) (omega arith) good.counts.one_last in
    (both.0, is_zero _ both.1)

last_stake : (own : Stake) → is_last_stake own ≡ true → own ≡ stake.Last
last_stake stake.Last e = refl
last_stake stake.Free e = absurd (cc)
last_stake stake.Ref e = absurd (cc)
last_stake stake.Read e = absurd (cc)
last_stake stake.Write e = absurd (cc)
last_stake (stake.Waits d) e = absurd (cc)
last_stake (stake.Owes d) e = absurd (cc)
last_stake (stake.Closing r w) e = absurd (cc)
last_stake (stake.Drains r w) e = absurd (cc)

last_answer : (a : Answer) → is_last a ≡ true → a ≡ answer.Last
last_answer answer.Last e = refl
last_answer answer.Held e = absurd (cc)
last_answer answer.Queued e = absurd (cc)
last_answer answer.Kept e = absurd (cc)
last_answer answer.Owes e = absurd (cc)
last_answer answer.Signalled e = absurd (cc)
last_answer answer.Woken e = absurd (cc)
last_answer answer.Closing e = absurd (cc)
last_answer answer.Drained e = absurd (cc)
last_answer answer.Done e = absurd (cc)
last_answer answer.Misuse e = absurd (cc)
last_answer answer.Closed e = absurd (cc)
last_answer answer.TooMany e = absurd (cc)
last_answer answer.Full e = absurd (cc)
last_answer answer.NotYet e = absurd (cc)
last_answer answer.Draining e = absurd (cc)

marked_by : (s : LockState) (holder : ℕ) (change : Change) (q : ℕ) → (with_change s holder change).destroyed_by ≡ Some q
    → (s.destroyed_by ≡ Some q) ⊎ ((is_destroying change ≡ true) × (holder ≡ q))
marked_by s holder nothing q e = inl e
marked_by s holder closes q e = inl e
marked_by s holder drains q e = inl e
marked_by s holder (adds_signal d) q e = inl e
marked_by s holder (takes_signal d) q e = inl e
marked_by s holder destroys q e = inr (refl, cc)

-- one event more, by the outcome that it came to
knows_carried : (events : List Event) (s : LockState) (holder : ℕ) (o : Op) (out : Outcome)
    → s ≡ state_after empty events → IsConsistent s → outcome (census s) (stake_of s holder) o ≡ out
    → TellsEnds (stake_of s holder) out → IsConsistent (carried_out s holder out).0 → KnowsTheEnd events s
    → KnowsTheEnd (events ++ record { holder = holder; op = o } ∷ []) (carried_out s holder out).0
knows_carried events s holder o (refused a) is good out ends fine known = still_knows events _ s known
knows_carried events s holder o (moved a new change) is good out (done, last, own_last) fine known =
    record {
      lasts = λ q e. by_holder q (is_eq (nat_cmp q holder)) refl e;
      destroyer = λ q e. by_mark q (marked_by (with_stake s holder new) holder change q e);
    }
  where
    next : LockState
    next = with_change (with_stake s holder new) holder change

    leads : (transition s holder o) ≡ (next, a)
    leads = ap (carried_out s holder) out

    leads_on : transition (state_after empty events) holder o ≡ (next, a)
    leads_on = subst (λ (u : LockState). transition u holder o ≡ (next, a)) is leads

    new_stake : (q : ℕ) → is_eq (nat_cmp q holder) ≡ true → stake_of next q ≡ new
    new_stake q e =
        ap (λ (es : List (ℕ × Stake)). unwrap_or (lookup (is_at (nat_cmp q)) es) stake.Free)
        (names-change (with_stake s holder new) holder change)
        ∙ ap (λ (k : ℕ). unwrap_or (lookup (is_at (nat_cmp k)) (insert_entry nat_cmp s.holders holder new)) stake.Free)
        (equal_key q holder e)
        ∙ ap (λ (found : Option Stake). unwrap_or found stake.Free) (lookup-at holder new s.holders)

    old_stake : (q : ℕ) → is_eq (nat_cmp q holder) ≡ false → stake_of next q ≡ stake_of s q
    old_stake q e =
        ap (λ (es : List (ℕ × Stake)). unwrap_or (lookup (is_at (nat_cmp q)) es) stake.Free)
        (names-change (with_stake s holder new) holder change)
        ∙ ap (λ (found : Option Stake). unwrap_or found stake.Free) (lookup-other holder q new s.holders e)

    this_event : (q : ℕ) → holder ≡ q → stake_of next q ≡ stake.Last → new ≡ stake.Last
        → ReturnedTheLast (events ++ record { holder = holder; op = o } ∷ []) q
    this_event q same e is_last_new =
        let ends = closed_and_unused next q fine e in
        let this : ReturnedTheLast (events ++ record { holder = holder; op = o } ∷ []) holder = record {
          earlier = events;
          op = o;
          later = [];
          among = refl;
          answered = ap (λ (p : LockState × Answer). p.1) leads_on
              ∙ last_answer a (last ∙ ap is_last_stake is_last_new);
          closed = ap (λ (p : LockState × Answer). p.0.closed) leads_on ∙ ends.0;
          unused = ap (λ (p : LockState × Answer). number references (census p.0)) leads_on ∙ ends.1;
        } in
        subst (λ (h : ℕ). ReturnedTheLast (events ++ record { holder = holder; op = o } ∷ []) h) same this

    by_holder : (q : ℕ) (t : Bool) → is_eq (nat_cmp q holder) ≡ t → stake_of next q ≡ stake.Last
        → ReturnedTheLast (events ++ record { holder = holder; op = o } ∷ []) q
    by_holder q true same e = this_event q (sym (equal_key q holder same)) e (sym (new_stake q same) ∙ e)
    by_holder q false other e = later_on events _ q (known.lasts q (sym (old_stake q other) ∙ e))

    by_mark : (q : ℕ) → (s.destroyed_by ≡ Some q) ⊎ ((is_destroying change ≡ true) × (holder ≡ q))
        → ReturnedTheLast (events ++ record { holder = holder; op = o } ∷ []) q
    by_mark q (inl before) = later_on events _ q (known.destroyer q before)
    by_mark q (inr (destroying, same)) =
        subst (λ (h : ℕ). ReturnedTheLast (events ++ record { holder = holder; op = o } ∷ []) h) same
        (later_on events _ holder (known.lasts holder (last_stake (stake_of s holder) (own_last ∙ destroying))))

-- after more events, known still
knows_after : (events more : List Event) → KnowsTheEnd events (state_after empty events)
    → KnowsTheEnd (events ++ more) (state_after empty (events ++ more))
knows_after events [] known =
    subst (λ (xs : List Event). KnowsTheEnd xs (state_after empty xs)) (sym (append-nil events)) known
knows_after events (e ∷ more) known =
    let s : LockState = state_after empty events in
    let good : IsConsistent s = always_consistent events in
    let one_more : KnowsTheEnd (events ++ e ∷ []) (transition s e.holder e.op).0 =
    knows_carried events s e.holder e.op (outcome (census s) (stake_of s e.holder) e.op) refl good refl
    (tells_ends (census s) (stake_of s e.holder) e.op) (transition_consistent s e.holder e.op good) known in
    let pushed : KnowsTheEnd (events ++ e ∷ []) (state_after empty (events ++ e ∷ [])) =
    subst (λ (u : LockState). KnowsTheEnd (events ++ e ∷ []) u)
    (sym (state_after-append empty events (e ∷ []))) one_more in
    subst (λ (xs : List Event). KnowsTheEnd xs (state_after empty xs)) (append_assoc events (e ∷ []) more)
    (knows_after (events ++ e ∷ []) more pushed)

knows_nothing : KnowsTheEnd [] empty
knows_nothing = record { lasts = λ holder e. absurd (cc); destroyer = λ holder e. absurd (cc) }

pub destroyer_returned : (events : List Event) (holder : ℕ) → (state_after empty events).destroyed_by ≡ Some holder
    → ReturnedTheLast events holder
destroyer_returned events holder e = (knows_after [] events knows_nothing).destroyer holder e
