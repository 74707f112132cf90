-- States with the holders' names: every transition keeps a consistent state consistent.
use Rattle.std.proofs.Common.{◌≡◌, ◌<◌, ◌∙◌, [], ◌∷◌, Ordering, Err}
use Rattle.std.specs.Prelude.{◌==◌, if◌then◌else◌, nat_lt}
use Rattle.std.specs.declared.cmp.Ordering.TheVariants.{Equal, Greater}
use Rattle.std.specs.Ordering.{match_ordering}
use Rattle.std.specs.List.{AllByRecursion}
use Rattle.lockword_core.proofs.Words.{ℕ, Bool, true, false, List, refl, sym, ap, arith, subst, Result, Ok, Less}
use Rattle.lockword_core.proofs.Words.{nat_cmp, keys_of, values_of, insert_entry, IsStrictlySortedBy, nat_tests, Dir}
use Rattle.lockword_core.proofs.Words.{Read, Write, Stake, Op, MAX_SIGNALS, Kind, After, Refused, signals_in, LockState}
use Rattle.lockword_core.proofs.Words.{empty, Census, census, stake_of, references, locks, queued, owed, closers}
use Rattle.lockword_core.proofs.Words.{drainers, lasts, encoded, IsConsistent, IsConsistentCensus, IsCounted}
use Rattle.lockword_core.proofs.Words.{ChangesOneStake, Change}
use Rattle.lockword_core.proofs.Words.{nothing, closes, drains, adds_signal, takes_signal, destroys, Outcome, refused}
use Rattle.lockword_core.proofs.Words.{moved}
use Rattle.lockword_core.proofs.Words.{allows, outcome, allowed_outcome, stake_after_signal, changed, with_stake}
use Rattle.lockword_core.proofs.Words.{with_change, carried_out, transition, op_of, gained, Tells, stepped_word}
use Rattle.lockword_core.specs.declared.stake.Stake.TheVariants as stake
use Rattle.lockword_core.specs.declared.stake.Op.TheVariants as op
use Rattle.lockword_core.specs.declared.stake.Answer.TheVariants as answer
use Rattle.lockword_core.specs.declared.transition.Kind.TheVariants as kind
use Rattle.lockword_core.specs.LockState.{owed_part}
use Rattle.lockword_core.specs.Transition.{signal_outcome, wake_outcome}
use Rattle.lockword_core.specs.WordStep.{TellsTransition}
use Rattle.lockword_core.proofs.CountLemmas.{count-nil, changes-insert}
use Rattle.lockword_core.proofs.BalanceLemmas as laws
use Rattle.lockword_core.proofs.BalanceLemmas.{IsBalanced}
use Rattle.lockword_core.proofs.InvariantPreserved.{balance_of, consistent_of, encoded_of}
use Rattle.lockword_core.proofs.FieldSteps.{other_numbers}
use Rattle.lockword_core.proofs.WordRefines.{StepIs, step_is, tells, pick_then, pick_else}

-- ---- Operations beside the word keep the balance at the same word

-- a move keeps the balance at this word
abbrev pub Keeps : Census → Stake → ℕ → Outcome → Type 0
Keeps c own n (refused a) = Unit {0}
Keeps c own n (moved a new change) =
    (stakes : List Stake) → ChangesOneStake c.stakes own stakes new → IsBalanced (changed c stakes change) n

by_test : (b : Bool) (P : Outcome → Type 0) (x y : Outcome) → (b ≡ true → P x) → (b ≡ false → P y)
    → P (if b then x else y)
by_test true P x y f g = f refl
by_test false P x y f g = g refl

signal_keeps : (d : Dir) (c : Census) (n : ℕ) → IsBalanced c n
    → Keeps c (stake.Owes d) n (signal_outcome d c stake.Free)
signal_keeps d c n b =
    by_test (signals_in d c.signals == MAX_SIGNALS) (Keeps c (stake.Owes d) n) _ _ (λ _. tt)
    (λ room stakes one. laws.signal_keeps c stakes n b d one (other_numbers _ _ room))

some_owed : (k : ℕ) → nat_lt 0 k ≡ true → 0 < k
some_owed k e = grind (arith, nat_tests)

pay_keeps : (d : Dir) (r w : ℕ) (c : Census) (n : ℕ) → IsBalanced c n → nat_lt 0 (owed_part d r w) ≡ true
    → Keeps c (stake.Closing r w) n (signal_outcome d c (stake_after_signal d (stake.Closing r w)))
pay_keeps d r w c n b owes =
    by_test (signals_in d c.signals == MAX_SIGNALS) (Keeps c (stake.Closing r w) n) _ _ (λ _. tt)
    (λ room stakes one. laws.pay_keeps c stakes n b d r w one (some_owed (owed_part d r w) owes)
    (other_numbers _ _ room))

repay_keeps : (d : Dir) (r w : ℕ) (c : Census) (n : ℕ) → IsBalanced c n → nat_lt 0 (owed_part d r w) ≡ true
    → Keeps c (stake.Drains r w) n (signal_outcome d c (stake_after_signal d (stake.Drains r w)))
repay_keeps d r w c n b owes =
    by_test (signals_in d c.signals == MAX_SIGNALS) (Keeps c (stake.Drains r w) n) _ _ (λ _. tt)
    (λ room stakes one. laws.repay_keeps c stakes n b d r w one (some_owed (owed_part d r w) owes)
    (other_numbers _ _ room))

wake_keeps : (d : Dir) (c : Census) (n : ℕ) → IsBalanced c n → Keeps c (stake.Waits d) n (wake_outcome d c)
wake_keeps d c n b =
    by_test (signals_in d c.signals == 0) (Keeps c (stake.Waits d) n) _ _ (λ _. tt)
    (λ some stakes one. laws.wake_keeps c stakes n b d one (other_numbers _ _ some))

-- the operations that don't act on the state word
abbrev pub IsBeside : Op → Type 0
IsBeside (op.Signal d) = Unit {0}
IsBeside (op.Wake d) = Unit {0}
IsBeside op.Destroy = Unit {0}
IsBeside _ = ⊥

pub beside_keeps : (c : Census) (own : Stake) (o : Op) (n : ℕ) → IsBeside o → IsBalanced c n → allows own o ≡ true
    → Keeps c own n (outcome c own o)
beside_keeps c (stake.Owes Read) (op.Signal Read) n beside b may = signal_keeps Read c n b
beside_keeps c (stake.Owes Write) (op.Signal Write) n beside b may = signal_keeps Write c n b
beside_keeps c (stake.Owes Read) (op.Signal Write) n beside b may = absurd (cc)
beside_keeps c (stake.Owes Write) (op.Signal Read) n beside b may = absurd (cc)
beside_keeps c (stake.Closing r w) (op.Signal d) n beside b may =
    subst (λ (o : Outcome). Keeps c (stake.Closing r w) n o) (sym (pick_then _ _ _ may)) (pay_keeps d r w c n b may)
beside_keeps c (stake.Drains r w) (op.Signal d) n beside b may =
    subst (λ (o : Outcome). Keeps c (stake.Drains r w) n o) (sym (pick_then _ _ _ may)) (repay_keeps d r w c n b may)
beside_keeps c (stake.Waits Read) (op.Wake Read) n beside b may = wake_keeps Read c n b
beside_keeps c (stake.Waits Write) (op.Wake Write) n beside b may = wake_keeps Write c n b
beside_keeps c (stake.Waits Read) (op.Wake Write) n beside b may = absurd (cc)
beside_keeps c (stake.Waits Write) (op.Wake Read) n beside b may = absurd (cc)
beside_keeps c stake.Last op.Destroy n beside b may = λ stakes one. laws.destroy_keeps c stakes n b one
beside_keeps c _ op.Incref n beside b may = absurd beside
beside_keeps c _ op.Decref n beside b may = absurd beside
beside_keeps c _ op.Close n beside b may = absurd beside
beside_keeps c _ op.Drain n beside b may = absurd beside
beside_keeps c _ (op.Lock d) n beside b may = absurd beside
beside_keeps c _ (op.Unlock d) n beside b may = absurd beside
beside_keeps c _ (op.Signal d) n beside b may = absurd (cc)
beside_keeps c _ (op.Wake d) n beside b may = absurd (cc)
beside_keeps c _ op.Destroy n beside b may = absurd (cc)

-- ---- Every operation keeps the census consistent

-- a move leads to a consistent census
abbrev pub KeepsConsistent : Census → Stake → Outcome → Type 0
KeepsConsistent c own (refused a) = Unit {0}
KeepsConsistent c own (moved a new change) =
    (stakes : List Stake) → ChangesOneStake c.stakes own stakes new → IsConsistentCensus (changed c stakes change)

word_consistent : (c : Census) (own : Stake) (k : Kind) (o : Outcome) (r : Result (ℕ × After) Refused)
    → StepIs c own k o r → KeepsConsistent c own o
word_consistent c own k (refused a) r step = tt
word_consistent c own k (moved a new change) r (n, gain, is, same, balance) =
    λ stakes one. consistent_of (changed c stakes change) n (balance stakes one)

beside_consistent : (c : Census) (own : Stake) (n : ℕ) (o : Outcome) → Keeps c own n o → KeepsConsistent c own o
beside_consistent c own n (refused a) keeps = tt
beside_consistent c own n (moved a new change) keeps =
    λ stakes one. consistent_of (changed c stakes change) n (keeps stakes one)

by_op : (c : Census) (own : Stake) (o : Op) → IsConsistentCensus c → IsCounted c own → allows own o ≡ true
    → KeepsConsistent c own (outcome c own o)
by_op c own op.Incref good counted may =
    word_consistent c own kind.Incref _ _ (step_is c own kind.Incref (encoded c) (balance_of c good) counted may)
by_op c own op.Decref good counted may =
    word_consistent c own kind.Decref _ _ (step_is c own kind.Decref (encoded c) (balance_of c good) counted may)
by_op c own (op.Lock d) good counted may =
    word_consistent c own (kind.Lock d) _ _ (step_is c own (kind.Lock d) (encoded c) (balance_of c good) counted may)
by_op c own (op.Unlock d) good counted may =
    word_consistent c own (kind.Unlock d) _ _
    (step_is c own (kind.Unlock d) (encoded c) (balance_of c good) counted may)
by_op c own op.Close good counted may =
    word_consistent c own kind.Close _ _ (step_is c own kind.Close (encoded c) (balance_of c good) counted may)
by_op c own op.Drain good counted may =
    word_consistent c own kind.Drain _ _ (step_is c own kind.Drain (encoded c) (balance_of c good) counted may)
by_op c own (op.Signal d) good counted may =
    beside_consistent c own (encoded c) _ (beside_keeps c own (op.Signal d) (encoded c) tt (balance_of c good) may)
by_op c own (op.Wake d) good counted may =
    beside_consistent c own (encoded c) _ (beside_keeps c own (op.Wake d) (encoded c) tt (balance_of c good) may)
by_op c own op.Destroy good counted may =
    beside_consistent c own (encoded c) _ (beside_keeps c own op.Destroy (encoded c) tt (balance_of c good) may)

pub stays_consistent : (c : Census) (own : Stake) (o : Op) → IsConsistentCensus c → IsCounted c own
    → KeepsConsistent c own (outcome c own o)
stays_consistent c own o good counted = by (allows own o) refl
  where
    by : (t : Bool) → allows own o ≡ t → KeepsConsistent c own (outcome c own o)
    by true e = by_op c own o good counted e
    by false e =
        subst (λ (x : Outcome). KeepsConsistent c own x)
        (sym (pick_else (allows own o) (allowed_outcome c own o) (refused answer.Misuse) e)) tt

-- ---- The names stay in order

less : (a b : ℕ) → nat_cmp a b ≡ Less → a < b
less a b e = grind (arith, nat_tests)

is_less : (a b : ℕ) → a < b → nat_cmp a b ≡ Less
is_less a b h = grind (arith, nat_tests)

greater : (a b : ℕ) → nat_cmp a b ≡ Greater → b < a
greater a b e = grind (arith, nat_tests)

all_above : (k x : ℕ) (ks : List ℕ) → k < x → AllByRecursion (λ y. nat_cmp x y ≡ Less) ks
    → AllByRecursion (λ y. nat_cmp k y ≡ Less) ks
all_above k x [] below above = tt
all_above k x (y ∷ ys) below above =
    let low : x < y = less x y above.0 in
    let lower : k < y = omega arith in
    (is_less k y lower, all_above k x ys below above.1)

all_inserted : (x k : ℕ) (v : Stake) (es : List (ℕ × Stake)) → x < k
    → AllByRecursion (λ y. nat_cmp x y ≡ Less) (keys_of es)
    → AllByRecursion (λ y. nat_cmp x y ≡ Less) (keys_of (insert_entry nat_cmp es k v))
all_inserted x k v [] below above = (is_less x k below, tt)
all_inserted x k v (e ∷ es) below above = by_order (nat_cmp k e.0) (all_inserted x k v es below above.1)
  where
    by_order : (o : Ordering) → AllByRecursion (λ y. nat_cmp x y ≡ Less) (keys_of (insert_entry nat_cmp es k v))
        → AllByRecursion (λ y. nat_cmp x y ≡ Less)
        (keys_of (match_ordering o ((k, v) ∷ e ∷ es) ((e.0, v) ∷ es) (e ∷ insert_entry nat_cmp es k v)))
    by_order Less rest = (is_less x k below, above)
    by_order Equal rest = above
    by_order Greater rest = (above.0, rest)

pub sorted-insert : (k : ℕ) (v : Stake) (es : List (ℕ × Stake)) → IsStrictlySortedBy nat_cmp (keys_of es)
    → IsStrictlySortedBy nat_cmp (keys_of (insert_entry nat_cmp es k v))
unfolding IsStrictlySortedBy
sorted-insert k v [] sorted = (tt, tt)
sorted-insert k v (e ∷ es) sorted = by_order (nat_cmp k e.0) refl (sorted-insert k v es sorted.1)
  where
    by_order : (o : Ordering) → nat_cmp k e.0 ≡ o → IsStrictlySortedBy nat_cmp (keys_of (insert_entry nat_cmp es k v))
        → IsStrictlySortedBy nat_cmp
        (keys_of (match_ordering o ((k, v) ∷ e ∷ es) ((e.0, v) ∷ es) (e ∷ insert_entry nat_cmp es k v)))
    by_order Less h rest = ((h, all_above k e.0 (keys_of es) (less k e.0 h) sorted.0), sorted)
    by_order Equal h rest = sorted
    by_order Greater h rest = (all_inserted e.0 k v es (greater k e.0 h) sorted.0, rest)

-- ---- States

pub counted_in : (state : LockState) (holder : ℕ) → IsConsistent state
    → IsCounted (census state) (stake_of state holder)
counted_in state holder good =
    let one = changes-insert state.holders holder stake.Free good.names in
    record { at_least = λ what. let before = one.counted_before what in omega arith }

pub census-change : (state : LockState) (holder : ℕ) (own : Stake) (change : Change)
    → census (with_change (with_stake state holder own) holder change)
    ≡ changed (census state) (values_of (insert_entry nat_cmp state.holders holder own)) change
census-change state holder own nothing = refl
census-change state holder own closes = refl
census-change state holder own drains = refl
census-change state holder own (adds_signal d) = refl
census-change state holder own (takes_signal d) = refl
census-change state holder own destroys = refl

pub names-change : (state : LockState) (holder : ℕ) (change : Change)
    → (with_change state holder change).holders ≡ state.holders
names-change state holder nothing = refl
names-change state holder closes = refl
names-change state holder drains = refl
names-change state holder (adds_signal d) = refl
names-change state holder (takes_signal d) = refl
names-change state holder destroys = refl

carried_consistent : (state : LockState) (holder : ℕ) (o : Outcome) → IsConsistent state
    → KeepsConsistent (census state) (stake_of state holder) o → IsConsistent (carried_out state holder o).0
carried_consistent state holder (refused a) good keeps = good
carried_consistent state holder (moved a new change) good keeps =
    record {
      names = rw (names-change (with_stake state holder new) holder change)
          (sorted-insert holder new state.holders good.names);
      counts = rw (census-change state holder new change)
          (keeps (values_of (insert_entry nat_cmp state.holders holder new))
          (changes-insert state.holders holder new good.names));
    }

-- every transition leads from a consistent state to a consistent one
pub transition_consistent : (state : LockState) (holder : ℕ) (o : Op) → IsConsistent state
    → IsConsistent (transition state holder o).0
transition_consistent state holder o good =
    carried_consistent state holder (outcome (census state) (stake_of state holder) o) good
    (stays_consistent (census state) (stake_of state holder) o good.counts (counted_in state holder good))

empty-balance : IsBalanced (census empty) 0
empty-balance =
    omega (
      arith,
      count-nil references,
      count-nil (locks Read),
      count-nil (locks Write),
      count-nil (queued Read),
      count-nil (queued Write),
      count-nil (owed Read),
      count-nil (owed Write),
      count-nil closers,
      count-nil drainers,
      count-nil lasts,
    )

pub empty-word : 0 ≡ encoded (census empty)
empty-word = encoded_of (census empty) 0 empty-balance

pub empty_consistent : IsConsistent empty
unfolding IsStrictlySortedBy
empty_consistent = record { names = tt; counts = consistent_of (census empty) 0 empty-balance }

-- ---- A step on the word is the transition

tells_carried : (state : LockState) (holder : ℕ) (k : Kind) (o : Outcome) (r : Result (ℕ × After) Refused)
    → IsConsistent state → Tells (census state) (stake_of state holder) k o r
    → TellsTransition state k (carried_out state holder o) r
tells_carried state holder k o (Err e) good same = ap (carried_out state holder) same
tells_carried state holder k o (Ok (n, gain)) good (change, same, word) =
    let new : Stake = (gained k gain).1 in
    let next : TellsTransition state k (carried_out state holder (moved (gained k gain).0 new change))
    (Ok (n, gain)) = (
      refl,
      word (values_of (insert_entry nat_cmp state.holders holder new))
          (changes-insert state.holders holder new good.names)
          ∙ ap encoded (sym (census-change state holder new change)),
    ) in
    subst (λ (x : Outcome). TellsTransition state k (carried_out state holder x) (Ok (n, gain))) (sym same) next

pub tells_transition : (state : LockState) (holder : ℕ) (k : Kind) (n : ℕ) → IsConsistent state
    → n ≡ encoded (census state) → allows (stake_of state holder) (op_of k) ≡ true
    → TellsTransition state k (transition state holder (op_of k)) (stepped_word n k)
tells_transition state holder k n good is may =
    tells_carried state holder k (outcome (census state) (stake_of state holder) (op_of k)) (stepped_word n k) good
    (tells (census state) (stake_of state holder) k n good.counts (counted_in state holder good) is may)
