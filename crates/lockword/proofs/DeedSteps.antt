-- What one operation adds to the list of deeds.
use Rattle.std.proofs.Common.{◌≡◌, ◌+◌, ◌-◌, ◌∙◌, [], ◌∷◌}
use Rattle.std.specs.Prelude.{◌==◌, ◌&&◌, if◌then◌else◌}
use Rattle.std.specs.List.{Contains}
use Rattle.lockword.proofs.Words.{ℕ, Bool, true, false, List, refl, sym, ap, arith, Dir, Read, Write, Stake, Op}
use Rattle.lockword.proofs.Words.{Answer}
use Rattle.lockword_core.specs.declared.word.TheConstants.{MAX_REFERENCES, MAX_WAITERS}
use Rattle.lockword_core.specs.declared.signals.TheConstants.{MAX_SIGNALS}
use Rattle.lockword_core.proofs.Words.{bit, signals_in, Census}
use Rattle.lockword_core.proofs.Words.{LockState, census, stake_of, references, locks, lasts, part, number, pending, Change}
use Rattle.lockword_core.proofs.Words.{IsConsistent, Outcome, refused, moved, allows, outcome, allowed_outcome}
use Rattle.lockword_core.proofs.Words.{drop_outcome, stake_after_signal, drains_stake, lock_stake, with_stake, with_change}
use Rattle.lockword_core.proofs.Words.{carried_out, transition, changed, values_of, insert_entry, nat_cmp, nat_tests}
use Rattle.lockword_core.proofs.Words.{nothing, closes, drains, adds_signal, takes_signal, destroys}
use Rattle.lockword_core.specs.LockState.{count}
use Rattle.lockword_core.specs.declared.stake.Stake.TheVariants as stake
use Rattle.lockword_core.specs.declared.stake.Op.TheVariants as op
use Rattle.lockword_core.specs.declared.stake.Answer.TheVariants as answer
use Rattle.lockword_core.specs.OperationCounts.{is_close, is_drain, is_destroy, is_refusal}
use Rattle.lockword_core.proofs.CountLemmas.{changes-insert, moves}
use Rattle.lockword_core.proofs.StateLemmas.{census-change}
use Rattle.lockword.specs.Headline.{answers_to, is}

-- what an operation that moved its holder from one stake to another was answered
pub record Tells (shut : Bool) (used : ℕ) (own : Stake) (o : Op) (a : Answer) (new : Stake) : Type 0 where
  pub fits : Contains (answers_to o) a
  pub closes : is answer.Closing a ≡ is_close o
  pub drains : is answer.Drained a ≡ is_drain o
  pub destroys : is answer.Done a ≡ is_destroy o
  pub refs : bit (is answer.Held a) + bit (is answer.Closing a) + part references own
      ≡ part references new + bit (is answer.Kept a) + bit (is answer.Owes a) + bit (is answer.Last a)
  pub duties : part lasts own + bit (is answer.Last a) ≡ part lasts new + bit (is answer.Done a)
  pub last : a ≡ answer.Last → (shut ≡ true) × (used ≡ 1)

abbrev TellsOutcome : Census → Stake → Op → Outcome → Type 0
TellsOutcome c own o (refused a) = is_refusal a ≡ true
TellsOutcome c own o (moved a new change) = Tells c.closed (number references c) own o a new

by_test : (c : Census) (own : Stake) (o : Op) (b : Bool) (x y : Outcome) → (b ≡ true → TellsOutcome c own o x)
    → (b ≡ false → TellsOutcome c own o y) → TellsOutcome c own o (if b then x else y)
by_test c own o true x y f g = f refl
by_test c own o false x y f g = g refl

only : (a : Answer) → Contains (a ∷ []) a
only a = (0, omega arith, refl)

first : (a b : Answer) → Contains (a ∷ b ∷ []) a
first a b = (0, omega arith, refl)

incref_tells : (c : Census) → TellsOutcome c stake.Free op.Incref (allowed_outcome c stake.Free op.Incref)
incref_tells c =
    by_test c stake.Free op.Incref c.closed _ _ (λ _. refl)
    (λ _. by_test c stake.Free op.Incref c.draining _ _ (λ _. refl)
    (λ _. by_test c stake.Free op.Incref (number references c == MAX_REFERENCES) _ _ (λ _. refl)
    (λ _. record { fits = only answer.Held; closes = refl; drains = refl; destroys = refl; refs = refl; duties = refl; last = λ e. absurd (cc) })))

close_tells : (c : Census) → TellsOutcome c stake.Free op.Close (allowed_outcome c stake.Free op.Close)
close_tells c =
    by_test c stake.Free op.Close c.closed _ _ (λ _. refl)
    (λ _. by_test c stake.Free op.Close (number references c == MAX_REFERENCES) _ _ (λ _. refl)
    (λ _. record { fits = only answer.Closing; closes = refl; drains = refl; destroys = refl; refs = refl; duties = refl; last = λ e. absurd (cc) }))

-- a drainer has no reference, and no duty
no_reference : (r w : ℕ) → (part references (drains_stake r w) ≡ 0) × (part lasts (drains_stake r w) ≡ 0)
no_reference r w = by (r == 0 && w == 0)
  where
    by : (t : Bool) → (part references (if t then stake.Free else stake.Drains r w) ≡ 0)
        × (part lasts (if t then stake.Free else stake.Drains r w) ≡ 0)
    by true = (refl, refl)
    by false = (refl, refl)

drain_tells : (c : Census) → TellsOutcome c stake.Free op.Drain (allowed_outcome c stake.Free op.Drain)
drain_tells c =
    by_test c stake.Free op.Drain c.closed _ _ (λ _. refl)
    (λ _. by_test c stake.Free op.Drain c.draining _ _ (λ _. refl)
    (λ _. record {
      fits = only answer.Drained;
      closes = refl;
      drains = refl;
      destroys = refl;
      refs = let none = (no_reference (pending Read c) (pending Write c)).0 in omega arith;
      duties = let none = (no_reference (pending Read c) (pending Write c)).1 in omega arith;
      last = λ e. absurd (cc);
    }))

-- the holder of a lock has one reference, and no duty
one_reference : (d : Dir) → (part references (lock_stake d) ≡ 1) × (part lasts (lock_stake d) ≡ 0)
one_reference Read = (refl, refl)
one_reference Write = (refl, refl)

lock_tells : (d : Dir) (c : Census) → TellsOutcome c stake.Free (op.Lock d) (allowed_outcome c stake.Free (op.Lock d))
lock_tells d c =
    by_test c stake.Free (op.Lock d) c.closed _ _ (λ _. refl)
    (λ _. by_test c stake.Free (op.Lock d) c.draining _ _ (λ _. refl)
    (λ _. by_test c stake.Free (op.Lock d) (number (locks d) c == 0) _ _
    (λ _. by_test c stake.Free (op.Lock d) (number references c == MAX_REFERENCES) _ _ (λ _. refl)
    (λ _. record {
      fits = first answer.Held answer.Queued;
      closes = refl;
      drains = refl;
      destroys = refl;
      refs = let one = (one_reference d).0 in omega arith;
      duties = let none = (one_reference d).1 in omega arith;
      last = λ e. absurd (cc);
    }))
    (λ _. by_test c stake.Free (op.Lock d) (pending d c == MAX_WAITERS) _ _ (λ _. refl)
    (λ _. record {
      fits = (1, omega arith, refl);
      closes = refl;
      drains = refl;
      destroys = refl;
      refs = refl;
      duties = refl;
      last = λ e. absurd (cc);
    }))))

both_true : (a b : Bool) → (a && b) ≡ true → (a ≡ true) × (b ≡ true)
both_true true true e = (refl, refl)
both_true true false e = absurd (cc)
both_true false b e = absurd (cc)

is_one : (n : ℕ) → (n == 1) ≡ true → n ≡ 1
is_one n e = grind (arith, nat_tests)

-- a reference that is given back by the holder of this stake
drop_tells : (c : Census) (own : Stake) (o : Op) → (part references own ≡ 1) × (part lasts own ≡ 0)
    → Contains (answers_to o) answer.Kept → Contains (answers_to o) answer.Last → is_close o ≡ false → is_drain o ≡ false → is_destroy o ≡ false
    → TellsOutcome c own o (drop_outcome c)
drop_tells c own o (one, none) kept last no_close no_drain no_destroy =
    by_test c own o (c.closed && (number references c == 1)) _ _
    (λ over. record {
      fits = last;
      closes = sym no_close;
      drains = sym no_drain;
      destroys = sym no_destroy;
      refs = omega arith;
      duties = omega arith;
      last = λ e. let both = both_true c.closed (number references c == 1) over in (both.0, is_one _ both.1);
    })
    (λ _. record {
      fits = kept;
      closes = sym no_close;
      drains = sym no_drain;
      destroys = sym no_destroy;
      refs = omega arith;
      duties = omega arith;
      last = λ e. absurd (cc);
    })

unlock_tells : (d : Dir) (c : Census)
    → TellsOutcome c (lock_stake d) (op.Unlock d) (allowed_outcome c (lock_stake d) (op.Unlock d))
unlock_tells d c =
    by_test c (lock_stake d) (op.Unlock d) (pending d c == 0) _ _
    (λ _. drop_tells c (lock_stake d) (op.Unlock d) (one_reference d) (0, omega arith, refl) (2, omega arith, refl)
    refl refl refl)
    (λ _. record {
      fits = (1, omega arith, refl);
      closes = refl;
      drains = refl;
      destroys = refl;
      refs = let one = (one_reference d).0 in omega arith;
      duties = let none = (one_reference d).1 in omega arith;
      last = λ e. absurd (cc);
    })

signal_tells : (d : Dir) (c : Census) (own : Stake)
    → (part references (stake_after_signal d own) ≡ part references own)
    × (part lasts (stake_after_signal d own) ≡ part lasts own) → TellsOutcome c own (op.Signal d) (allowed_outcome c own (op.Signal d))
signal_tells d c own (same, none) =
    by_test c own (op.Signal d) (signals_in d c.signals == MAX_SIGNALS) _ _ (λ _. refl)
    (λ _. record {
      fits = only answer.Signalled;
      closes = refl;
      drains = refl;
      destroys = refl;
      refs = omega arith;
      duties = omega arith;
      last = λ e. absurd (cc);
    })

wake_tells : (d : Dir) (c : Census)
    → TellsOutcome c (stake.Waits d) (op.Wake d) (allowed_outcome c (stake.Waits d) (op.Wake d))
wake_tells d c =
    by_test c (stake.Waits d) (op.Wake d) (signals_in d c.signals == 0) _ _ (λ _. refl)
    (λ _. record { fits = only answer.Woken; closes = refl; drains = refl; destroys = refl; refs = refl; duties = refl; last = λ e. absurd (cc) })

allowed_tells : (c : Census) (own : Stake) (o : Op) → allows own o ≡ true
    → TellsOutcome c own o (allowed_outcome c own o)
allowed_tells c stake.Free op.Incref may = incref_tells c
allowed_tells c stake.Free op.Close may = close_tells c
allowed_tells c stake.Free op.Drain may = drain_tells c
allowed_tells c stake.Free (op.Lock d) may = lock_tells d c
allowed_tells c stake.Ref op.Decref may =
    drop_tells c stake.Ref op.Decref (refl, refl) (0, omega arith, refl) (1, omega arith, refl) refl refl refl
allowed_tells c (stake.Closing r w) op.Decref may =
    drop_tells c (stake.Closing r w) op.Decref (refl, refl) (0, omega arith, refl) (1, omega arith, refl) refl refl refl
allowed_tells c stake.Read (op.Unlock Read) may = unlock_tells Read c
allowed_tells c stake.Write (op.Unlock Write) may = unlock_tells Write c
allowed_tells c (stake.Owes e) (op.Signal Read) may = signal_tells Read c (stake.Owes e) (refl, refl)
allowed_tells c (stake.Owes e) (op.Signal Write) may = signal_tells Write c (stake.Owes e) (refl, refl)
allowed_tells c (stake.Closing r w) (op.Signal Read) may = signal_tells Read c (stake.Closing r w) (refl, refl)
allowed_tells c (stake.Closing r w) (op.Signal Write) may = signal_tells Write c (stake.Closing r w) (refl, refl)
allowed_tells c (stake.Drains r w) (op.Signal Read) may =
    signal_tells Read c (stake.Drains r w) (no_reference (r - 1) w)
allowed_tells c (stake.Drains r w) (op.Signal Write) may =
    signal_tells Write c (stake.Drains r w) (no_reference r (w - 1))
allowed_tells c (stake.Waits Read) (op.Wake Read) may = wake_tells Read c
allowed_tells c (stake.Waits Write) (op.Wake Write) may = wake_tells Write c
allowed_tells c stake.Last op.Destroy may =
    record {
      fits = only answer.Done;
      closes = refl;
      drains = refl;
      destroys = refl;
      refs = refl;
      duties = refl;
      last = λ e. absurd (cc);
    }
allowed_tells c stake.Read (op.Unlock Write) may = absurd (cc)
allowed_tells c stake.Write (op.Unlock Read) may = absurd (cc)
allowed_tells c (stake.Waits Read) (op.Wake Write) may = absurd (cc)
allowed_tells c (stake.Waits Write) (op.Wake Read) may = absurd (cc)
allowed_tells c _ op.Incref may = absurd (cc)
allowed_tells c _ op.Decref may = absurd (cc)
allowed_tells c _ (op.Lock d) may = absurd (cc)
allowed_tells c _ (op.Unlock d) may = absurd (cc)
allowed_tells c _ (op.Signal d) may = absurd (cc)
allowed_tells c _ (op.Wake d) may = absurd (cc)
allowed_tells c _ op.Close may = absurd (cc)
allowed_tells c _ op.Drain may = absurd (cc)
allowed_tells c _ op.Destroy may = absurd (cc)

tells : (c : Census) (own : Stake) (o : Op) → TellsOutcome c own o (outcome c own o)
tells c own o = by (allows own o) refl
  where
    by : (t : Bool) → allows own o ≡ t
        → TellsOutcome c own o (if t then allowed_outcome c own o else refused answer.Misuse)
    by true may = allowed_tells c own o may
    by false no_use = refl

-- ---- One operation of one holder

-- what an operation that isn't refused was answered, and the references before and after it
pub record TellsDeed (s : LockState) (o : Op) (next : LockState × Answer) : Type 0 where
  pub fits : Contains (answers_to o) next.1
  pub closes : is answer.Closing next.1 ≡ is_close o
  pub drains : is answer.Drained next.1 ≡ is_drain o
  pub destroys : is answer.Done next.1 ≡ is_destroy o
  pub refs : bit (is answer.Held next.1) + bit (is answer.Closing next.1) + number references (census s)
      ≡ number references (census next.0) + bit (is answer.Kept next.1) + bit (is answer.Owes next.1)
      + bit (is answer.Last next.1)
  pub duties : number lasts (census s) + bit (is answer.Last next.1)
      ≡ number lasts (census next.0) + bit (is answer.Done next.1)
  pub last : next.1 ≡ answer.Last → (s.closed ≡ true) × (number references (census s) ≡ 1)

changed_stakes : (c : Census) (ys : List Stake) (change : Change) → (changed c ys change).stakes ≡ ys
changed_stakes c ys nothing = refl
changed_stakes c ys closes = refl
changed_stakes c ys drains = refl
changed_stakes c ys (adds_signal d) = refl
changed_stakes c ys (takes_signal d) = refl
changed_stakes c ys destroys = refl

carried_tells : (s : LockState) (holder : ℕ) (o : Op) (x : Outcome) → IsConsistent s
    → TellsOutcome (census s) (stake_of s holder) o x → is_refusal (carried_out s holder x).1 ≡ false
    → TellsDeed s o (carried_out s holder x)
carried_tells s holder o (refused a) good told not_refused = absurd (cc)
carried_tells s holder o (moved a new change) good told not_refused =
    let ys : List Stake = values_of (insert_entry nat_cmp s.holders holder new) in
    let next = census (with_change (with_stake s holder new) holder change) in
    let same = census-change s holder new change in
    let stakes_are : next.stakes ≡ ys =
    ap (λ (x : Census). x.stakes) same ∙ changed_stakes (census s) ys change in
    let refs_are = ap (count references) stakes_are in
    let lasts_are = ap (count lasts) stakes_are in
    let counted = moves (census s).stakes ys (stake_of s holder) new (changes-insert s.holders holder new good.names) in
    let refs_moved = counted references in
    let lasts_moved = counted lasts in
    record {
      fits = told.fits;
      closes = told.closes;
      drains = told.drains;
      destroys = told.destroys;
      refs = let one = told.refs in omega arith;
      duties = let one = told.duties in omega arith;
      last = told.last;
    }

pub tells_deed : (s : LockState) (holder : ℕ) (o : Op) → IsConsistent s → is_refusal (transition s holder o).1 ≡ false
    → TellsDeed s o (transition s holder o)
tells_deed s holder o good not_refused =
    carried_tells s holder o (outcome (census s) (stake_of s holder) o) good
    (tells (census s) (stake_of s holder) o) not_refused
