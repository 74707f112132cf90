-- The machine's fields stand for a state, before and after each operation.
use Rattle.std.proofs.Common.{◌≡◌, ◌+◌, ◌-◌, ◌≤◌, ◌<◌, ◌∙◌}
use Rattle.std.specs.Prelude.{◌==◌, ◌&&◌, if◌then◌else◌}
use Rattle.lockword_core.proofs.Words.{ℕ, Bool, true, false, refl, sym, ap, arith, subst, Ok, None, Some, nat_cmp}
use Rattle.lockword_core.proofs.Words.{values_of, insert_entry, nat_tests, Dir, Read, Write, Stake, Op, Answer}
use Rattle.lockword_core.proofs.Words.{MAX_SIGNALS, MAX_REFERENCES, MAX_WAITERS, Kind, After, signals_in, LockState}
use Rattle.lockword_core.proofs.Words.{empty, Census, census, stake_of, references, locks, number, pending, encoded}
use Rattle.lockword_core.proofs.Words.{IsConsistent, IsConsistentCensus, Change, nothing, closes, drains, adds_signal}
use Rattle.lockword_core.proofs.Words.{takes_signal, destroys, Outcome, refused, moved, allows, outcome}
use Rattle.lockword_core.proofs.Words.{allowed_outcome, drop_outcome, stake_after_signal, changed, with_stake}
use Rattle.lockword_core.proofs.Words.{with_change, carried_out, transition, op_of, gained, Tells}
use Rattle.lockword_core.specs.declared.stake.Stake.TheVariants as stake
use Rattle.lockword_core.specs.declared.stake.Op.TheVariants as op
use Rattle.lockword_core.specs.declared.stake.Answer.TheVariants as answer
use Rattle.lockword_core.specs.declared.transition.Kind.TheVariants as kind
use Rattle.lockword_core.specs.declared.machine.Machine.TheInside.{Inside}
use Rattle.lockword_core.specs.Signals.{with_signals}
use Rattle.lockword_core.specs.Word.{closed_in, drain_in}
use Rattle.lockword_core.specs.Machine.{state_in, IsSound}
use Rattle.lockword_core.proofs.CountLemmas.{changes-insert}
use Rattle.lockword_core.proofs.InvariantPreserved.{balance_of, encoded_of}
use Rattle.lockword_core.proofs.BalanceLemmas.{reads_as}
use Rattle.lockword_core.proofs.WordTable.{flag_is}
use Rattle.lockword_core.proofs.WordRefines.{pick_then, pick_else}
use Rattle.lockword_core.proofs.StateLemmas.{IsBeside, Keeps, beside_keeps, census-change, names-change}
use Rattle.lockword_core.proofs.StateLemmas.{transition_consistent, empty_consistent, empty-word}

-- ---- The fields stand for a state

closed-encoded : (s : LockState) → IsConsistent s → closed_in (encoded (census s)) ≡ s.closed
closed-encoded s good =
    sym (flag_is s.closed _ (reads_as (census s) (encoded (census s)) (balance_of (census s) good.counts)).flag)

drain-encoded : (s : LockState) → IsConsistent s → drain_in (encoded (census s)) ≡ s.draining
drain-encoded s good =
    sym (flag_is s.draining _ (reads_as (census s) (encoded (census s)) (balance_of (census s) good.counts)).drain)

same_state : (m : Inside) (s : LockState) → IsConsistent s → m.holders.entries ≡ s.holders → m.word ≡ encoded (census s)
    → m.signals ≡ s.signals → m.destroyed_by ≡ s.destroyed_by → state_in m ≡ s
same_state m s good holders word signals mark =
    let flag : closed_in m.word ≡ s.closed = ap closed_in word ∙ closed-encoded s good in
    let drained : drain_in m.word ≡ s.draining = ap drain_in word ∙ drain-encoded s good in
    rw (holders, flag, drained, signals, mark) refl

pub sound_new : (m : Inside) → m.holders.entries ≡ empty.holders → m.word ≡ 0 → m.signals ≡ empty.signals
    → m.destroyed_by ≡ None → IsSound m
sound_new m holders word signals mark =
    let zero_word : 0 ≡ encoded (census empty) = empty-word in
    let is : state_in m ≡ empty = same_state m empty empty_consistent holders (word ∙ zero_word) signals mark in
    record {
      consistent = subst (λ (s : LockState). IsConsistent s) (sym is) empty_consistent;
      word = word ∙ zero_word ∙ ap (λ (s : LockState). encoded (census s)) (sym is);
    }

-- ---- After an operation

-- the machine has made this transition, with this answer
pub record HasMade (m : Inside) (s : LockState) (holder : ℕ) (o : Op) (a : Answer) : Type 0 where
  pub sound : IsSound m
  pub made : (state_in m, a) ≡ transition s holder o

pub has_made : (m : Inside) (s : LockState) (holder : ℕ) (o : Op) (a : Answer) (new : Stake) (change : Change)
    → IsConsistent s → outcome (census s) (stake_of s holder) o ≡ moved a new change
    → m.holders.entries ≡ insert_entry nat_cmp s.holders holder new
    → m.word ≡ encoded (changed (census s) (values_of (insert_entry nat_cmp s.holders holder new)) change)
    → m.signals ≡ (with_change (with_stake s holder new) holder change).signals
    → m.destroyed_by ≡ (with_change (with_stake s holder new) holder change).destroyed_by
    → HasMade m s holder o a
has_made m s holder o a new change good is holders word signals mark =
    let next : LockState = with_change (with_stake s holder new) holder change in
    let leads : transition s holder o ≡ (next, a) = ap (carried_out s holder) is in
    let fine : IsConsistent next =
    subst (λ (p : LockState × Answer). IsConsistent p.0) leads (transition_consistent s holder o good) in
    let next_word : m.word ≡ encoded (census next) = word ∙ ap encoded (sym (census-change s holder new change)) in
    let same : state_in m ≡ next =
    same_state m next fine
    (holders ∙ sym (names-change (with_stake s holder new) holder change)) next_word signals mark in
    record {
      sound = record {
        consistent = subst (λ (z : LockState). IsConsistent z) (sym same) fine;
        word = next_word ∙ ap (λ (z : LockState). encoded (census z)) (sym same);
      };
      made = ap (λ (z : LockState). (z, a)) same ∙ sym leads;
    }

-- ---- An operation on the word changes neither the signals nor the mark

abbrev pub IsOfWord : Outcome → Type 0
IsOfWord (refused a) = Unit {0}
IsOfWord (moved a new nothing) = Unit {0}
IsOfWord (moved a new closes) = Unit {0}
IsOfWord (moved a new drains) = Unit {0}
IsOfWord (moved a new _) = ⊥

by_test : (b : Bool) (x y : Outcome) → IsOfWord x → IsOfWord y → IsOfWord (if b then x else y)
by_test true x y p q = p
by_test false x y p q = q

drop_of_word : (c : Census) → IsOfWord (drop_outcome c)
drop_of_word c = by_test (c.closed && (number references c == 1)) _ _ tt tt

allowed_of_word : (c : Census) (own : Stake) (k : Kind) → IsOfWord (allowed_outcome c own (op_of k))
allowed_of_word c own kind.Incref =
    by_test c.closed _ _ tt
    (by_test c.draining _ _ tt (by_test (number references c == MAX_REFERENCES) _ _ tt tt))
allowed_of_word c own kind.Decref = drop_of_word c
allowed_of_word c own (kind.Lock d) =
    by_test c.closed _ _ tt
    (by_test c.draining _ _ tt
    (by_test (number (locks d) c == 0) _ _ (by_test (number references c == MAX_REFERENCES) _ _ tt tt)
    (by_test (pending d c == MAX_WAITERS) _ _ tt tt)))
allowed_of_word c own (kind.Unlock d) = by_test (pending d c == 0) _ _ (drop_of_word c) tt
allowed_of_word c own kind.Close = by_test c.closed _ _ tt (by_test (number references c == MAX_REFERENCES) _ _ tt tt)
allowed_of_word c own kind.Drain = by_test c.closed _ _ tt (by_test c.draining _ _ tt tt)

outcome_of_word : (c : Census) (own : Stake) (k : Kind) → IsOfWord (outcome c own (op_of k))
outcome_of_word c own k = by_test (allows own (op_of k)) _ _ (allowed_of_word c own k) tt

keeps-signals : (s : LockState) (holder : ℕ) (a : Answer) (new : Stake) (change : Change)
    → IsOfWord (moved a new change) → (with_change s holder change).signals ≡ s.signals
keeps-signals s holder a new nothing of_word = refl
keeps-signals s holder a new closes of_word = refl
keeps-signals s holder a new drains of_word = refl
keeps-signals s holder a new (adds_signal d) of_word = absurd of_word
keeps-signals s holder a new (takes_signal d) of_word = absurd of_word
keeps-signals s holder a new destroys of_word = absurd of_word

keeps-mark : (s : LockState) (holder : ℕ) (a : Answer) (new : Stake) (change : Change) → IsOfWord (moved a new change)
    → (with_change s holder change).destroyed_by ≡ s.destroyed_by
keeps-mark s holder a new nothing of_word = refl
keeps-mark s holder a new closes of_word = refl
keeps-mark s holder a new drains of_word = refl
keeps-mark s holder a new (adds_signal d) of_word = absurd of_word
keeps-mark s holder a new (takes_signal d) of_word = absurd of_word
keeps-mark s holder a new destroys of_word = absurd of_word

-- the machine m has made a step on the word and is now n
pub word_made : (m n : Inside) (holder : ℕ) (k : Kind) (gain : After) → IsSound m
    → allows (stake_of (state_in m) holder) (op_of k) ≡ true
    → Tells (census (state_in m)) (stake_of (state_in m) holder) k
    (outcome (census (state_in m)) (stake_of (state_in m) holder) (op_of k)) (Ok (n.word, gain))
    → n.holders.entries ≡ insert_entry nat_cmp m.holders.entries holder (gained k gain).1 → n.signals ≡ m.signals
    → n.destroyed_by ≡ m.destroyed_by
    → HasMade n (state_in m) holder (op_of k) (gained k gain).0
word_made m n holder k gain sound may (change, is, word) holders signals mark =
    let s : LockState = state_in m in
    let of_word : IsOfWord (moved (gained k gain).0 (gained k gain).1 change) =
    subst (λ (o : Outcome). IsOfWord o) is (outcome_of_word (census s) (stake_of s holder) k) in
    has_made n s holder (op_of k) (gained k gain).0 (gained k gain).1 change sound.consistent is holders
    (word _ (changes-insert s.holders holder (gained k gain).1 sound.consistent.names))
    (signals ∙ sym (keeps-signals (with_stake s holder (gained k gain).1) holder (gained k gain).0
    (gained k gain).1 change of_word))
    (mark ∙ sym (keeps-mark (with_stake s holder (gained k gain).1) holder (gained k gain).0
    (gained k gain).1 change of_word))

-- ---- An operation beside the word leaves it

kept_word : (s : LockState) (holder : ℕ) (o : Op) (a : Answer) (new : Stake) (change : Change) → IsConsistent s
    → IsBeside o → allows (stake_of s holder) o ≡ true
    → outcome (census s) (stake_of s holder) o ≡ moved a new change
    → encoded (census s) ≡ encoded (changed (census s) (values_of (insert_entry nat_cmp s.holders holder new)) change)
kept_word s holder o a new change good beside may is =
    let keeps : Keeps (census s) (stake_of s holder) (encoded (census s)) (moved a new change) =
    subst (λ (x : Outcome). Keeps (census s) (stake_of s holder) (encoded (census s)) x) is
    (beside_keeps (census s) (stake_of s holder) o (encoded (census s)) beside
    (balance_of (census s) good.counts) may) in
    encoded_of _ _ (keeps _ (changes-insert s.holders holder new good.names))

pub beside_made : (m n : Inside) (holder : ℕ) (o : Op) (a : Answer) (new : Stake) (change : Change) → IsSound m
    → IsBeside o → allows (stake_of (state_in m) holder) o ≡ true
    → outcome (census (state_in m)) (stake_of (state_in m) holder) o ≡ moved a new change
    → n.holders.entries ≡ insert_entry nat_cmp m.holders.entries holder new → n.word ≡ m.word
    → n.signals ≡ (with_change (with_stake (state_in m) holder new) holder change).signals
    → n.destroyed_by ≡ (with_change (with_stake (state_in m) holder new) holder change).destroyed_by
    → HasMade n (state_in m) holder o a
beside_made m n holder o a new change sound beside may is holders word signals mark =
    has_made n (state_in m) holder o a new change sound.consistent is holders
    (word ∙ sound.word ∙ kept_word (state_in m) holder o a new change sound.consistent beside may is) signals mark

-- a signal is given where there is room for it
pub signal_moves : (c : Census) (own : Stake) (d : Dir) → allows own (op.Signal d) ≡ true
    → signals_in d c.signals < MAX_SIGNALS
    → outcome c own (op.Signal d) ≡ moved answer.Signalled (stake_after_signal d own) (adds_signal d)
signal_moves c own d may room = pick_then _ _ _ may ∙ pick_else _ _ _ (other (signals_in d c.signals) room)
  where
    other : (n : ℕ) → n < MAX_SIGNALS → (n == MAX_SIGNALS) ≡ false
    other n lt = grind (arith, nat_tests)

pub signal_full : (c : Census) (own : Stake) (d : Dir) → IsConsistentCensus c → allows own (op.Signal d) ≡ true
    → MAX_SIGNALS ≤ signals_in d c.signals → outcome c own (op.Signal d) ≡ refused answer.Full
signal_full c own d good may full = pick_then _ _ _ may ∙ pick_then _ _ _ (same (signals_in d c.signals) (fits d) full)
  where
    fits : (d : Dir) → signals_in d c.signals ≤ MAX_SIGNALS
    fits Read = good.reading.signals_fit
    fits Write = good.writing.signals_fit

    same : (n : ℕ) → n ≤ MAX_SIGNALS → MAX_SIGNALS ≤ n → (n == MAX_SIGNALS) ≡ true
    same n le ge = grind (arith, nat_tests)

-- a signal is taken where there is one
pub wake_moves : (c : Census) (own : Stake) (d : Dir) → allows own (op.Wake d) ≡ true → 0 < signals_in d c.signals
    → outcome c own (op.Wake d) ≡ moved answer.Woken stake.Free (takes_signal d)
wake_moves c own d may some = pick_then _ _ _ may ∙ pick_else _ _ _ (other (signals_in d c.signals) some)
  where
    other : (n : ℕ) → 0 < n → (n == 0) ≡ false
    other n lt = grind (arith, nat_tests)

pub wake_refused : (c : Census) (own : Stake) (d : Dir) → allows own (op.Wake d) ≡ true → signals_in d c.signals ≡ 0
    → outcome c own (op.Wake d) ≡ refused answer.NotYet
wake_refused c own d may none = pick_then _ _ _ may ∙ pick_then _ _ _ (same (signals_in d c.signals) none)
  where
    same : (n : ℕ) → n ≡ 0 → (n == 0) ≡ true
    same n e = grind (arith, nat_tests)

-- ---- The three operations beside the word

pub destroy_made : (m n : Inside) (holder : ℕ) → IsSound m → allows (stake_of (state_in m) holder) op.Destroy ≡ true
    → n.holders.entries ≡ insert_entry nat_cmp m.holders.entries holder stake.Free → n.word ≡ m.word
    → n.signals ≡ m.signals → n.destroyed_by ≡ Some holder
    → HasMade n (state_in m) holder op.Destroy answer.Done
destroy_made m n holder sound may holders word signals mark =
    beside_made m n holder op.Destroy answer.Done stake.Free destroys sound tt may
    (pick_then _ _ _ may) holders word signals mark

pub signal_made : (m n : Inside) (holder : ℕ) (d : Dir) (left : Stake) (more : ℕ) → IsSound m
    → allows (stake_of (state_in m) holder) (op.Signal d) ≡ true
    → signals_in d m.signals < MAX_SIGNALS → more ≡ signals_in d m.signals + 1
    → left ≡ stake_after_signal d (stake_of (state_in m) holder)
    → n.holders.entries ≡ insert_entry nat_cmp m.holders.entries holder left → n.word ≡ m.word
    → n.signals ≡ with_signals d more m.signals → n.destroyed_by ≡ m.destroyed_by
    → HasMade n (state_in m) holder (op.Signal d) answer.Signalled
signal_made m n holder d left more sound may room one rest holders word signals mark =
    beside_made m n holder (op.Signal d) answer.Signalled (stake_after_signal d (stake_of (state_in m) holder))
    (adds_signal d) sound tt may
    (signal_moves (census (state_in m)) (stake_of (state_in m) holder) d may room)
    (holders ∙ ap (λ (own : Stake). insert_entry nat_cmp m.holders.entries holder own) rest) word
    (signals ∙ ap (λ (k : ℕ). with_signals d k m.signals) one) mark

pub wake_made : (m n : Inside) (holder : ℕ) (d : Dir) (fewer : ℕ) → IsSound m
    → allows (stake_of (state_in m) holder) (op.Wake d) ≡ true
    → 0 < signals_in d m.signals → fewer ≡ signals_in d m.signals - 1
    → n.holders.entries ≡ insert_entry nat_cmp m.holders.entries holder stake.Free → n.word ≡ m.word
    → n.signals ≡ with_signals d fewer m.signals → n.destroyed_by ≡ m.destroyed_by
    → HasMade n (state_in m) holder (op.Wake d) answer.Woken
wake_made m n holder d fewer sound may some one holders word signals mark =
    beside_made m n holder (op.Wake d) answer.Woken stake.Free (takes_signal d) sound tt may
    (wake_moves (census (state_in m)) (stake_of (state_in m) holder) d may some)
    holders word (signals ∙ ap (λ (k : ℕ). with_signals d k m.signals) one) mark
