-- Semaphores: a signal that is given or taken keeps the rule.
use Rattle.std.proofs.Common.{◌≡◌, ◌≢◌, ◌+◌, ◌-◌, ◌<◌, ◌≤◌, ◌∙◌, [], ◌∷◌, ◌++◌}
use Rattle.std.specs.Prelude.{nat_lt}
use Rattle.lockword.proofs.Words.{ℕ, eqb, true, get_or, set, refl, sym, subst, arith, nat_tests, none, either}
use Rattle.lockword.proofs.Words.{List, step, stepped, keeps, Allows, Dir, Read, Write, Stake, Event, Op, Answer, signals_in}
use Rattle.lockword.proofs.Words.{with_signals, Census, empty, locks, lasts, part, state_after, ChangesOneStake, allows}
use Rattle.lockword.proofs.Words.{IsBalanced, LocalView, STATE, stakes_of, taken_by, semaphore, IsReached, IsMade}
use Rattle.lockword_core.specs.declared.stake.Stake.TheVariants as stake
use Rattle.lockword_core.specs.declared.stake.Op.TheVariants as op
use Rattle.lockword_core.specs.declared.stake.Answer.TheVariants as answer
use Rattle.lockword_core.specs.declared.signals.TheConstants.{MAX_SIGNALS}
use Rattle.lockword_core.specs.LockState.{count, owed_part}
use Rattle.lockword_core.specs.Transition.{stake_after_signal}
use Rattle.lockword_core.proofs.BalanceLemmas as laws
use Rattle.lockword.specs.LocalView.{takers}
use Rattle.lockword.specs.declared.transitions.SignalMove.{SignalMove}
use Rattle.lockword.specs.declared.transitions.SignalMove.TheVariants as move
use Rattle.lockword.specs.Steps.{way_of, op_at, answer_at, Changes, hearing, signalled_view, counted, signalled}
use Rattle.lockword.proofs.ViewLemmas.{one_changes, takers-set, taken-le}
use Rattle.lockword.proofs.Representation.{present, fits, recounted, represents, on_signals}
use Rattle.lockword.proofs.StepParts.{drainer_lockless}
use Rattle.lockword.proofs.StateSteps.{same_count}
use Rattle.lockword.proofs.LookSteps.{view_of}
use Rattle.lockword.proofs.HistorySteps.{event, IsMove, own_stake, more_deeds, none_refused_more, is_made}
use Rattle.lockword.proofs.SignalHistory.{IsDeed, gives_deed, takes_deed, deed_moves, signalled_history}
use Rattle.lockword.proofs.Exchanges.{M, swaps, unmoved}
use Rattle.lockword.proofs.HeardSteps.{heard_more, stays}
use Rattle.lockword.proofs.Rehear.{rehear_after}

-- what an exchange of n for m at the semaphore of a direction does for the holder of a stake, which then has another
pub record KeepsCounts (d : Dir) (n m : ℕ) (own new : Stake) : Type 0 where
  own_lockless : (e : Dir) → part (locks e) own ≡ 0
  new_lockless : (e : Dir) → part (locks e) new ≡ 0
  not_last : part lasts own ≡ 0
  balances : (c : Census) (ys : List Stake) (word : ℕ) → IsBalanced c word → ChangesOneStake c.stakes own ys new
      → signals_in d c.signals ≡ n
      → IsBalanced (record c { stakes = ys; signals = with_signals d m c.signals }) word

some_owed : (k : ℕ) → nat_lt 0 k ≡ true → 0 < k
some_owed k e = grind (arith, nat_tests)

owes_that_way : (d e : Dir) → allows (stake.Owes e) (op.Signal d) ≡ true → e ≡ d
owes_that_way Read Read may = refl
owes_that_way Write Write may = refl
owes_that_way Read Write may = absurd (cc)
owes_that_way Write Read may = absurd (cc)

waits_that_way : (d e : Dir) → allows (stake.Waits e) (op.Wake d) ≡ true → e ≡ d
waits_that_way Read Read may = refl
waits_that_way Write Write may = refl
waits_that_way Read Write may = absurd (cc)
waits_that_way Write Read may = absurd (cc)

owed_is_given : (d e : Dir) → stake_after_signal d (stake.Owes e) ≡ stake.Free
owed_is_given Read e = refl
owed_is_given Write e = refl

wait_is_over : (d e : Dir) → stake_after_signal d (stake.Waits e) ≡ stake.Free
wait_is_over Read e = refl
wait_is_over Write e = refl

drainer_owes : (d : Dir) (r w : ℕ) → allows (stake.Drains r w) (op.Signal d) ≡ true → 0 < owed_part d r w
drainer_owes Read r w may = some_owed r may
drainer_owes Write r w may = some_owed w may

closer_owes : (d : Dir) (r w : ℕ) → allows (stake.Closing r w) (op.Signal d) ≡ true → 0 < owed_part d r w
closer_owes Read r w may = some_owed r may
closer_owes Write r w may = some_owed w may

-- a closer that gave a signal has no lock
closer_lockless : (d e : Dir) (r w : ℕ) → part (locks e) (stake_after_signal d (stake.Closing r w)) ≡ 0
closer_lockless Read e r w = refl
closer_lockless Write e r w = refl

-- a drainer that gave a signal has no lock
drainer_still_lockless : (d e : Dir) (r w : ℕ) → part (locks e) (stake_after_signal d (stake.Drains r w)) ≡ 0
drainer_still_lockless Read e r w = drainer_lockless e (r - 1) w
drainer_still_lockless Write e r w = drainer_lockless e r (w - 1)

with_count : (d : Dir) (c : Census) (ys : List Stake) (word n : ℕ) (change : ℕ → ℕ) → signals_in d c.signals ≡ n
    → IsBalanced (record c { stakes = ys; signals = with_signals d (change (signals_in d c.signals)) c.signals }) word
    → IsBalanced (record c { stakes = ys; signals = with_signals d (change n) c.signals }) word
with_count d c ys word n change e b =
    subst (λ (x : ℕ). IsBalanced (record c { stakes = ys; signals = with_signals d (change x) c.signals }) word) e b

gives_owed : (d : Dir) (n : ℕ) → n ≢ MAX_SIGNALS → KeepsCounts d n (n + 1) (stake.Owes d) stake.Free
gives_owed d n room =
    record {
      own_lockless = λ e. refl;
      new_lockless = λ e. refl;
      not_last = refl;
      balances = λ c ys word b one e. with_count d c ys word n (λ x. x + 1) e
          (laws.signal_keeps c ys word b d one (λ full. room (sym e ∙ full)));
    }

pub gives_signal : (d : Dir) (n : ℕ) (own : Stake) → allows own (op.Signal d) ≡ true → n ≢ MAX_SIGNALS
    → KeepsCounts d n (n + 1) own (stake_after_signal d own)
gives_signal d n (stake.Owes e) may room =
    subst (λ (z : Stake × Stake). KeepsCounts d n (n + 1) z.0 z.1)
    (λ i. (stake.Owes (sym (owes_that_way d e may) i), sym (owed_is_given d e) i)) (gives_owed d n room)
gives_signal d n (stake.Closing r w) may room =
    record {
      own_lockless = λ e. refl;
      new_lockless = λ e. closer_lockless d e r w;
      not_last = refl;
      balances = λ c ys word b one e. with_count d c ys word n (λ x. x + 1) e
          (laws.pay_keeps c ys word b d r w one (closer_owes d r w may) (λ full. room (sym e ∙ full)));
    }
gives_signal d n (stake.Drains r w) may room =
    record {
      own_lockless = λ e. refl;
      new_lockless = λ e. drainer_still_lockless d e r w;
      not_last = refl;
      balances = λ c ys word b one e. with_count d c ys word n (λ x. x + 1) e
          (laws.repay_keeps c ys word b d r w one (drainer_owes d r w may) (λ full. room (sym e ∙ full)));
    }
gives_signal d n _ may room = absurd (cc)

takes_waited : (d : Dir) (n : ℕ) → n ≢ 0 → KeepsCounts d n (n - 1) (stake.Waits d) stake.Free
takes_waited d n more =
    record {
      own_lockless = λ e. refl;
      new_lockless = λ e. refl;
      not_last = refl;
      balances = λ c ys word b one e. with_count d c ys word n (λ x. x - 1) e
          (laws.wake_keeps c ys word b d one (λ none. more (sym e ∙ none)));
    }

pub takes_signal : (d : Dir) (n : ℕ) (own : Stake) → allows own (op.Wake d) ≡ true → n ≢ 0
    → KeepsCounts d n (n - 1) own (stake_after_signal d own)
takes_signal d n (stake.Waits e) may more =
    subst (λ (z : Stake × Stake). KeepsCounts d n (n - 1) z.0 z.1)
    (λ i. (stake.Waits (sym (waits_that_way d e may) i), sym (wait_is_over d e) i)) (takes_waited d n more)
takes_signal d n _ may more = absurd (cc)

-- the exchange keeps the counts, and is this operation with this answer
pub record IsSignalStep (d : Dir) (n m : ℕ) (own : Stake) (o : Op) (a : Answer) : Type 0 where
  counts : KeepsCounts d n m own (stake_after_signal d own)
  deed : IsDeed d n m own (stake_after_signal d own) o a

-- a semaphore with room
gives_one : (d : Dir) (n m : ℕ) (own : Stake) → allows own (op.Signal d) ≡ true → n < MAX_SIGNALS → m ≡ n + 1
    → IsSignalStep d n m own (op.Signal d) answer.Signalled
gives_one d n m own may room more =
    record {
      counts = subst (λ (x : ℕ). KeepsCounts d n x own (stake_after_signal d own)) (sym more)
          (gives_signal d n own may (λ full. absurd (omega arith)));
      deed = gives_deed d n m own may room more;
    }

-- a semaphore with a signal
takes_one : (d : Dir) (n m : ℕ) (own : Stake) → allows own (op.Wake d) ≡ true → 0 < n → m ≡ n - 1
    → IsSignalStep d n m own (op.Wake d) answer.Woken
takes_one d n m own may any less =
    record {
      counts = subst (λ (x : ℕ). KeepsCounts d n x own (stake_after_signal d own)) (sym less)
          (takes_signal d n own may (λ none. absurd (omega arith)));
      deed = takes_deed d n m own may any less;
    }

pub changes_one : (k : SignalMove) (d : Dir) (n m : ℕ) (own : Stake) → allows own (op_at k d) ≡ true → Changes k n m
    → IsSignalStep d n m own (op_at k d) (answer_at k)
changes_one move.Gives d n m own may (room, more) = gives_one d n m own may room more
changes_one move.Takes d n m own may (any, less) = takes_one d n m own may any less

way_back : (d : Dir) → way_of (semaphore d) ≡ d
way_back Read = refl
way_back Write = refl

few_signals : (d : Dir) (c : Census) (word : ℕ) → IsBalanced c word → signals_in d c.signals ≤ MAX_SIGNALS
few_signals Read c word b = b.reading.signals_fit
few_signals Write c word b = b.writing.signals_fit

module _ (R W : Type 0) where
  -- what the seat has and did once it gave or took a signal
  abbrev IsSignalled : (Dir → Op) → Answer → Dir → M R W → M R W → Type 0
  IsSignalled o a d me me' =
      (h : List Event) × (me' ≡ (hearing h (signalled_view o d me.0), me.1)) × IsMade (o d) a me.0 me'.0

  -- an exchange of a semaphore, by which a seat's stake changes, keeps the rule
  signals_there : (d : Dir) (slots id n m : ℕ) (me : M R W) (o : Dir → Op) (a : Answer)
      → IsSignalStep d n m me.0.stake (o d) a
      → Allows IsReached slots id me (semaphore d) (λ x. either (eqb x n) m x)
      (signalled o a (step slots (semaphore d) n m none) me)
  signals_there d slots id n m me o a signal =
      let keeps_counts = signal.counts in
      swaps R W slots id (semaphore d) n m me (IsSignalled o a (way_of (semaphore d)) me)
      (λ s reached at found.
      let r = reached.represents in
      let f = fits s r in
      let c : Census = present s r in
      let w : LocalView = signalled_view o d me.0 in
      let views : List LocalView = set s.views id w in
      let one = one_changes s.views id me.0 w at in
      let here : signals_in d c.signals ≡ n = sym (f.semaphores d) ∙ found in
      let locked : (e : Dir) → count (locks e) (stakes_of views) ≡ count (locks e) (stakes_of s.views) =
      λ e. same_count _ _ _ _ _ (one.counted_before (locks e)) (one.counted_after (locks e))
      (keeps_counts.own_lockless e) (keeps_counts.new_lockless e) in
      let took : takers views + taken_by me.0 ≡ takers s.views + 0 = takers-set s.views id me.0 w at in
      let mine : taken_by me.0 ≤ part lasts me.0.stake = taken-le me.0 in
      let no_last = keeps_counts.not_last in
      let takers_same : takers views ≡ takers s.views = omega arith in
      let h : List Event = reached.history in
      let own = own_stake (state_after empty h) s.words s.views id me.0 reached.leads at in
      let made : IsMove h id (o d) a (stake_after_signal d me.0.stake) signal.deed.change =
      deed_moves h id d n m me.0.stake _ (o d) a signal.deed own (sym (reached.leads.semaphores d) ∙ found) in
      let all : List Event = h ++ event id (o d) ∷ [] in
      let x : LocalView = hearing all w in
      let next : IsReached (stepped s (semaphore d) m id me.1 w keeps) = record {
        represents = represents (set s.words (semaphore d) m) s.homes views
            (record c { stakes = stakes_of views; signals = with_signals d m c.signals }) (get_or s.words STATE 0)
            (on_signals d s.words s.homes s.views c (get_or s.words STATE 0) m id w f
            (keeps_counts.balances c (stakes_of views) _ f.balance one here)
            (λ e. recounted e s.homes c (stakes_of views) _ _ (locked e) takers_same (f.halves e))
            (let saw = f.seen id me.0 at in
            record { closed = saw.closed; draining = saw.draining; done = saw.done }));
        history = all;
        interleaves = more_deeds h s.views id me.0 w (o d) reached.interleaves at refl;
        none_refused = none_refused_more h id (o d) a _ _ made reached.none_refused;
        leads = signalled_history h s.words s.views id me.0 w d n m (stake_after_signal d me.0.stake)
            (o d) a signal.deed reached.leads r.four_words at found refl;
        heard = heard_more h s.views id me.0 w (event id (o d)) reached.heard at refl;
      } in (
        x,
        keeps,
        tt,
        rehear_after R W id me.0 w all (set s.words (semaphore d) m) s.homes s.views at next (stays all),
        subst (λ (y : Dir). IsSignalled o a y me (x, me.1)) (sym (way_back d)) (
          all,
          refl,
          is_made h id me.0 x (o d) a _ _ reached.none_refused (view_of s reached id me.0 at) made refl refl
              (reached.heard.each id me.0 at) refl,
        ),
      ))

  -- a load of a semaphore
  counts_there : (d : Dir) (slots id : ℕ) (me : M R W)
      → Allows IsReached slots id me (semaphore d) (λ n. n) (counted (step slots (semaphore d) 0 0 none) me)
  counts_there d slots id me s reached deep at small =
      let few = few_signals d (present s reached.represents) _ (fits s reached.represents).balance in
      let here = (fits s reached.represents).semaphores d in
      (me.0, keeps, tt, unmoved R W s (semaphore d) id me.0 reached at, (omega arith, refl))

  pub signals : (d : Dir) (slots id i n m : ℕ) (me : M R W) (o : Dir → Op) (a : Answer) → i ≡ semaphore d
      → IsSignalStep d n m me.0.stake (o d) a
      → Allows IsReached slots id me i (λ x. either (eqb x n) m x) (signalled o a (step slots i n m none) me)
  signals d slots id i n m me o a e signal =
      subst (λ (j : ℕ). Allows IsReached slots id me j (λ x. either (eqb x n) m x)
      (signalled o a (step slots j n m none) me)) (sym e) (signals_there d slots id n m me o a signal)

  pub counts : (d : Dir) (slots id i : ℕ) (me : M R W) → i ≡ semaphore d
      → Allows IsReached slots id me i (λ n. n) (counted (step slots i 0 0 none) me)
  counts d slots id i me e =
      subst (λ (j : ℕ). Allows IsReached slots id me j (λ n. n) (counted (step slots j 0 0 none) me)) (sym e)
      (counts_there d slots id me)
