-- Exchanges of a semaphore, as operations.
use Rattle.std.proofs.Common.{◌≡◌, ◌+◌, ◌-◌, ◌<◌, ◌∙◌, [], ◌∷◌, ◌++◌, Option}
use Rattle.std.specs.Prelude.{◌==◌}
use Rattle.lockword.proofs.Words.{ℕ, true, false, List, length, get_or, set, refl, sym, ap, arith, get_or-set_other}
use Rattle.lockword.proofs.Words.{is_some, some, get_elem?, nat_tests, Dir, Read, Write, Stake, Op, Answer, Event, bit}
use Rattle.lockword.proofs.Words.{signals_in, with_signals, LockState, empty, Census, census, stake_of, allows, outcome}
use Rattle.lockword.proofs.Words.{state_after, always_consistent, LocalView, semaphore, Matches}
use Rattle.lockword_core.specs.declared.stake.Stake.TheVariants as stake
use Rattle.lockword_core.specs.declared.stake.Op.TheVariants as op
use Rattle.lockword_core.specs.declared.stake.Answer.TheVariants as answer
use Rattle.lockword_core.specs.declared.signals.TheConstants.{MAX_SIGNALS}
use Rattle.lockword_core.specs.Transition.{Change, adds_signal, takes_signal, moved, stake_after_signal, with_stake}
use Rattle.lockword_core.specs.Transition.{with_change}
use Rattle.lockword_core.proofs.StateLemmas.{IsBeside}
use Rattle.lockword_core.proofs.WordRefines.{pick_then, pick_else}
use Rattle.lockword_core.proofs.HolderLemmas.{beside_word}
use Rattle.lockword.proofs.Representation.{not_state, not_done, semaphore_after}
use Rattle.lockword.proofs.HistorySteps.{IsMove, event, one_more, own_stake}

-- ---- Exchanges of a semaphore

-- an exchange of n for m at the semaphore of a direction is an operation of the holder of a stake, which then has
-- another
pub record IsDeed (d : Dir) (n m : ℕ) (own new : Stake) (op : Op) (answer : Answer) : Type 0 where
  pub change : Change
  pub beside : IsBeside op
  pub may : allows own op ≡ true
  pub made : (c : Census) → signals_in d c.signals ≡ n → outcome c own op ≡ moved answer new change
  pub signals : (st : LockState) (id : ℕ) (x : Stake) → signals_in d st.signals ≡ n
      → (with_change (with_stake st id x) id change).signals ≡ with_signals d m st.signals
  pub mark : (st : LockState) (id : ℕ) (x : Stake) → (with_change (with_stake st id x) id change).destroyed_by
      ≡ st.destroyed_by

not_full : (a b n : ℕ) → a ≡ n → n < b → (a == b) ≡ false
not_full a b n e small = grind (arith, nat_tests)

not_none : (a n : ℕ) → a ≡ n → 0 < n → (a == 0) ≡ false
not_none a n e any = grind (arith, nat_tests)

pub gives_deed : (d : Dir) (n m : ℕ) (own : Stake) → allows own (op.Signal d) ≡ true → n < MAX_SIGNALS → m ≡ n + 1
    → IsDeed d n m own (stake_after_signal d own) (op.Signal d) answer.Signalled
gives_deed d n m own may room more =
    record {
      change = adds_signal d;
      beside = tt;
      may = may;
      made = λ c e. pick_then (allows own (op.Signal d)) _ _ may
          ∙ pick_else (signals_in d c.signals == MAX_SIGNALS) _ _ (not_full _ _ n e room);
      signals = λ st id x e. ap (λ (k : ℕ). with_signals d k st.signals) (ap (λ (k : ℕ). k + 1) e ∙ sym more);
      mark = λ st id x. refl;
    }

woken : (d : Dir) (own : Stake) → allows own (op.Wake d) ≡ true → stake_after_signal d own ≡ stake.Free
woken Read (stake.Waits e) may = refl
woken Write (stake.Waits e) may = refl
woken d _ may = absurd (cc)

pub takes_deed : (d : Dir) (n m : ℕ) (own : Stake) → allows own (op.Wake d) ≡ true → 0 < n → m ≡ n - 1
    → IsDeed d n m own (stake_after_signal d own) (op.Wake d) answer.Woken
takes_deed d n m own may any less =
    record {
      change = takes_signal d;
      beside = tt;
      may = may;
      made = λ c e. pick_then (allows own (op.Wake d)) _ _ may
          ∙ pick_else (signals_in d c.signals == 0) _ _ (not_none _ n e any)
          ∙ ap (λ (x : Stake). moved answer.Woken x (takes_signal d)) (sym (woken d own may));
      signals = λ st id x e. ap (λ (k : ℕ). with_signals d k st.signals) (ap (λ (k : ℕ). k - 1) e ∙ sym less);
      mark = λ st id x. refl;
    }

-- the deed is a move of the core
pub deed_moves : (h : List Event) (id : ℕ) (d : Dir) (n m : ℕ) (own new : Stake) (o : Op) (a : Answer)
    (deed : IsDeed d n m own new o a)
    → stake_of (state_after empty h) id ≡ own → signals_in d (state_after empty h).signals ≡ n
    → IsMove h id o a new deed.change
deed_moves h id d n m own new o a deed is here =
    let st : LockState = state_after empty h in
    record { out = ap (λ (x : Stake). outcome (census st) x o) is ∙ deed.made (census st) here }

pub signalled_history : (h : List Event) (words : List ℕ) (views : List LocalView) (id : ℕ) (v w : LocalView) (d : Dir)
    (n m : ℕ) (new : Stake) (o : Op) (a : Answer)
    → IsDeed d n m v.stake new o a → Matches (state_after empty h) words views → length words ≡ 4
    → get_elem? views id ≡ some v → get_or words (semaphore d) 0 ≡ n → w.stake ≡ new
    → Matches (state_after empty (h ++ event id o ∷ [])) (set words (semaphore d) m) (set views id w)
signalled_history h words views id v w d n m new o a deed l wide at found is =
    let st : LockState = state_after empty h in
    let own : stake_of st id ≡ v.stake = own_stake st words views id v l at in
    let here : signals_in d st.signals ≡ n = sym (l.semaphores d) ∙ found in
    let made : IsMove h id o a new deed.change = deed_moves h id d n m v.stake new o a deed own here in
    let may : allows (stake_of st id) o ≡ true = ap (λ (x : Stake). allows x o) own ∙ deed.may in
    one_more h words (set words (semaphore d) m) views id v w o a new deed.change l at made is
    (get_or-set_other words (semaphore d) 0 m 0 (λ e. not_state d (sym e)) ∙ l.state_word
    ∙ sym (beside_word st id o a new deed.change (always_consistent h) deed.beside may made.out))
    (λ e. semaphore_after d e words m st.signals wide (l.semaphores e)
    ∙ ap (signals_in e) (sym (deed.signals st id new here)))
    (get_or-set_other words (semaphore d) 3 m 0 (λ e. not_done d (sym e)) ∙ l.done_word
    ∙ ap (λ (mark : Option ℕ). bit (is_some mark)) (sym (deed.mark st id new)))
