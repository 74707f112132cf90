-- What each operation does to the counts and to the word, as arithmetic. A balance says what `IsConsistentCensus`
-- says, in sums without subtractions, so that one call of arithmetic carries it over an operation.
use Rattle.std.proofs.Common.{◌≡◌, ◌≢◌, ◌+◌, ◌-◌, ◌*◌, ◌/◌, ◌%◌, ◌^◌, ◌≤◌, ◌<◌}
use Rattle.std.specs.Prelude.{◌==◌, ◌&&◌, if◌then◌else◌}
use Rattle.lockword_core.proofs.Words.{ℕ, Bool, true, false, List, refl, arith, nat_tests, Dir, Read, Write, Stake}
use Rattle.lockword_core.proofs.Words.{CLOSED, DRAIN, MAX_REFERENCES, MAX_WAITERS, MAX_SIGNALS, signals_in, bit}
use Rattle.lockword_core.proofs.Words.{waiters_in, Census, references, locks}
use Rattle.lockword_core.proofs.Words.{queued, owed, closers, drainers, lasts, number, pending, ChangesOneStake}
use Rattle.lockword_core.proofs.Words.{nothing, closes, drains, adds_signal, takes_signal, destroys, changed}
use Rattle.lockword_core.proofs.Words.{lock_stake, drains_stake, stake_after_signal}
use Rattle.lockword_core.specs.declared.stake.Stake.TheVariants as stake
use Rattle.lockword_core.specs.declared.word.TheConstants.{READ_LOCK, WRITE_LOCK, REFERENCE, READ_WAITER, WRITE_WAITER}
use Rattle.lockword_core.specs.Word.{lock_unit, waiter_unit, lock_in, references_in}
use Rattle.lockword_core.specs.LockState.{owed_part}
use Rattle.lockword_core.proofs.CountLemmas.{moves, count-within}

-- what holds of one direction
pub record IsBalancedWay (d : Dir) (c : Census) : Type 0 where
  pub one_holder : number (locks d) c ≤ 1
  pub signals_have_waiters : number (owed d) c + signals_in d c.signals ≤ number (queued d) c
  pub waiters_fit : number (queued d) c ≤ MAX_WAITERS + number (owed d) c + signals_in d c.signals
  pub signals_fit : signals_in d c.signals ≤ MAX_SIGNALS
  pub none_pending : bit c.closed ≡ 1 → number (queued d) c ≡ number (owed d) c + signals_in d c.signals
  pub none_drained : bit c.draining ≡ 1 → number (queued d) c ≡ number (owed d) c + signals_in d c.signals

-- the counts, the flags, the mark and the signals are consistent, and the word is theirs
pub record IsBalanced (c : Census) (word : ℕ) : Type 0 where
  pub closed_bit : bit c.closed ≤ 1
  pub draining_bit : bit c.draining ≤ 1
  pub destroyed_bit : bit c.destroyed ≤ 1
  pub reading : IsBalancedWay Read c
  pub writing : IsBalancedWay Write c
  pub references_fit : number references c ≤ MAX_REFERENCES
  pub one_closer : number closers c ≤ bit c.closed
  pub one_drainer : number drainers c ≤ bit c.draining
  pub ended : bit c.closed ≡ 1 → number references c ≡ 0 → number lasts c + bit c.destroyed ≡ 1
  pub unclosed : bit c.closed ≡ 0 → number lasts c + bit c.destroyed ≡ 0
  pub in_use : 0 < number references c → number lasts c + bit c.destroyed ≡ 0
  pub word_is :
      word + READ_WAITER * (number (owed Read) c + signals_in Read c.signals)
      + WRITE_WAITER * (number (owed Write) c + signals_in Write c.signals)
      ≡ CLOSED * bit c.closed + READ_LOCK * number (locks Read) c + WRITE_LOCK * number (locks Write) c
      + REFERENCE * number references c
      + READ_WAITER * number (queued Read) c + WRITE_WAITER * number (queued Write) c
      + DRAIN * bit c.draining

-- ---- The fields of the word

pub record ReadsAs (c : Census) (n : ℕ) : Type 0 where
  pub is_word : n < 2 ^ 64
  pub flag : n % READ_LOCK ≡ bit c.closed
  pub drain : n / DRAIN ≡ bit c.draining
  pub refs : references_in n ≡ number references c
  pub lock : (d : Dir) → lock_in d n ≡ number (locks d) c
  pub waiters : (d : Dir) → waiters_in d n ≡ pending d c

pub reads_as : (c : Census) (n : ℕ) → IsBalanced c n → ReadsAs c n
reads_as c n b =
    record {
      is_word = omega arith;
      flag = omega arith;
      drain = omega arith;
      refs = omega arith;
      lock = lock_is;
      waiters = waiters_are;
    }
  where
    lock_is : (d : Dir) → lock_in d n ≡ number (locks d) c
    lock_is Read = omega arith
    lock_is Write = omega arith

    waiters_are : (d : Dir) → waiters_in d n ≡ pending d c
    waiters_are Read = omega arith
    waiters_are Write = omega arith

-- ---- One law for each thing that an operation may come to

pub zeros : (r w : ℕ) → (r == 0 && w == 0) ≡ true → (r ≡ 0) × (w ≡ 0)
zeros r w e = (grind (arith, nat_tests), grind (arith, nat_tests))

module _ (c : Census) (ys : List Stake) (n : ℕ) (b : IsBalanced c n) where
  pub incref_keeps : ChangesOneStake c.stakes stake.Free ys stake.Ref → bit c.closed ≡ 0
      → bit c.draining ≡ 0 → number references c ≢ MAX_REFERENCES → IsBalanced (changed c ys nothing) (n + REFERENCE)
  incref_keeps one unshut undrained room = omega (arith, count-within c.stakes, count-within ys, moves _ _ _ _ one)

  pub close_keeps : ChangesOneStake c.stakes stake.Free ys (stake.Closing (waiters_in Read n) (waiters_in Write n))
      → bit c.closed ≡ 0 → number references c ≢ MAX_REFERENCES
      → IsBalanced (changed c ys closes) (n % READ_WAITER + n / DRAIN * DRAIN + REFERENCE + CLOSED)
  close_keeps one unshut room = omega (arith, count-within c.stakes, count-within ys, moves _ _ _ _ one)

  -- the holder that drains owes all signals, and has nothing where there are none
  pub drain_keeps : ChangesOneStake c.stakes stake.Free ys (drains_stake (waiters_in Read n) (waiters_in Write n))
      → bit c.closed ≡ 0 → bit c.draining ≡ 0 → IsBalanced (changed c ys drains) (n % READ_WAITER + DRAIN)
  drain_keeps one unshut undrained = by (waiters_in Read n == 0 && waiters_in Write n == 0) refl one
    where
      by : (t : Bool) → (waiters_in Read n == 0 && waiters_in Write n == 0) ≡ t
          → ChangesOneStake c.stakes stake.Free ys
          (if t then stake.Free else stake.Drains (waiters_in Read n) (waiters_in Write n))
          → IsBalanced (changed c ys drains) (n % READ_WAITER + DRAIN)
      by true none one =
          let both : (waiters_in Read n ≡ 0) × (waiters_in Write n ≡ 0) = zeros _ _ none in
          let readers : waiters_in Read n ≡ 0 = both.0 in
          let writers : waiters_in Write n ≡ 0 = both.1 in
          omega (arith, count-within c.stakes, count-within ys, moves _ _ _ _ one)
      by false some one = omega (arith, count-within c.stakes, count-within ys, moves _ _ _ _ one)

  pub lock_keeps : (d : Dir) → ChangesOneStake c.stakes stake.Free ys (lock_stake d) → bit c.closed ≡ 0
      → bit c.draining ≡ 0 → number (locks d) c ≡ 0 → number references c ≢ MAX_REFERENCES
      → IsBalanced (changed c ys nothing) (n + REFERENCE + lock_unit d)
  lock_keeps Read one unshut undrained free room =
      omega (arith, count-within c.stakes, count-within ys, moves _ _ _ _ one)
  lock_keeps Write one unshut undrained free room =
      omega (arith, count-within c.stakes, count-within ys, moves _ _ _ _ one)

  pub queue_keeps : (d : Dir) → ChangesOneStake c.stakes stake.Free ys (stake.Waits d) → bit c.closed ≡ 0
      → bit c.draining ≡ 0 → waiters_in d n ≢ MAX_WAITERS → IsBalanced (changed c ys nothing) (n + waiter_unit d)
  queue_keeps Read one unshut undrained room = omega (arith, count-within c.stakes, count-within ys, moves _ _ _ _ one)
  queue_keeps Write one unshut undrained room = omega (arith, count-within c.stakes, count-within ys, moves _ _ _ _ one)

  -- some reference but the last is given back
  pub drop_ref_keeps : ChangesOneStake c.stakes stake.Ref ys stake.Free → (bit c.closed ≡ 1 → 1 < number references c)
      → IsBalanced (changed c ys nothing) (n - REFERENCE)
  drop_ref_keeps one more = omega (arith, count-within c.stakes, count-within ys, moves _ _ _ _ one)

  pub drop_closing_keeps : ChangesOneStake c.stakes (stake.Closing 0 0) ys stake.Free
      → (bit c.closed ≡ 1 → 1 < number references c) → IsBalanced (changed c ys nothing) (n - REFERENCE)
  drop_closing_keeps one more = omega (arith, count-within c.stakes, count-within ys, moves _ _ _ _ one)

  pub unlock_keeps : (d : Dir) → ChangesOneStake c.stakes (lock_stake d) ys stake.Free
      → (bit c.closed ≡ 1 → 1 < number references c) → IsBalanced (changed c ys nothing) (n - REFERENCE - lock_unit d)
  unlock_keeps Read one more = omega (arith, count-within c.stakes, count-within ys, moves _ _ _ _ one)
  unlock_keeps Write one more = omega (arith, count-within c.stakes, count-within ys, moves _ _ _ _ one)

  -- the last reference after the close is given back
  pub last_ref_keeps : ChangesOneStake c.stakes stake.Ref ys stake.Last → bit c.closed ≡ 1 → number references c ≡ 1
      → IsBalanced (changed c ys nothing) (n - REFERENCE)
  last_ref_keeps one shut end = omega (arith, count-within c.stakes, count-within ys, moves _ _ _ _ one)

  pub last_closing_keeps : ChangesOneStake c.stakes (stake.Closing 0 0) ys stake.Last → bit c.closed ≡ 1
      → number references c ≡ 1 → IsBalanced (changed c ys nothing) (n - REFERENCE)
  last_closing_keeps one shut end = omega (arith, count-within c.stakes, count-within ys, moves _ _ _ _ one)

  pub last_unlock_keeps : (d : Dir) → ChangesOneStake c.stakes (lock_stake d) ys stake.Last → bit c.closed ≡ 1
      → number references c ≡ 1 → IsBalanced (changed c ys nothing) (n - REFERENCE - lock_unit d)
  last_unlock_keeps Read one shut end = omega (arith, count-within c.stakes, count-within ys, moves _ _ _ _ one)
  last_unlock_keeps Write one shut end = omega (arith, count-within c.stakes, count-within ys, moves _ _ _ _ one)

  pub owe_keeps : (d : Dir) → ChangesOneStake c.stakes (lock_stake d) ys (stake.Owes d) → waiters_in d n ≢ 0
      → IsBalanced (changed c ys nothing) (n - REFERENCE - lock_unit d - waiter_unit d)
  owe_keeps Read one waits = omega (arith, count-within c.stakes, count-within ys, moves _ _ _ _ one)
  owe_keeps Write one waits = omega (arith, count-within c.stakes, count-within ys, moves _ _ _ _ one)

  pub signal_keeps : (d : Dir) → ChangesOneStake c.stakes (stake.Owes d) ys stake.Free
      → signals_in d c.signals ≢ MAX_SIGNALS → IsBalanced (changed c ys (adds_signal d)) n
  signal_keeps Read one room = omega (arith, count-within c.stakes, count-within ys, moves _ _ _ _ one)
  signal_keeps Write one room = omega (arith, count-within c.stakes, count-within ys, moves _ _ _ _ one)

  pub pay_keeps : (d : Dir) (r w : ℕ)
      → ChangesOneStake c.stakes (stake.Closing r w) ys (stake_after_signal d (stake.Closing r w)) → 0 < owed_part d r w
      → signals_in d c.signals ≢ MAX_SIGNALS
      → IsBalanced (changed c ys (adds_signal d)) n
  pay_keeps Read r w one owes room = omega (arith, count-within c.stakes, count-within ys, moves _ _ _ _ one)
  pay_keeps Write r w one owes room = omega (arith, count-within c.stakes, count-within ys, moves _ _ _ _ one)

  -- the drainer that gave its last signal has nothing
  pub repay_keeps : (d : Dir) (r w : ℕ)
      → ChangesOneStake c.stakes (stake.Drains r w) ys (stake_after_signal d (stake.Drains r w)) → 0 < owed_part d r w
      → signals_in d c.signals ≢ MAX_SIGNALS
      → IsBalanced (changed c ys (adds_signal d)) n
  repay_keeps Read r w one owes room = by (r - 1 == 0 && w == 0) refl one
    where
      by : (t : Bool) → (r - 1 == 0 && w == 0) ≡ t
          → ChangesOneStake c.stakes (stake.Drains r w) ys (if t then stake.Free else stake.Drains (r - 1) w)
          → IsBalanced (changed c ys (adds_signal Read)) n
      by true none one =
          let both : (r - 1 ≡ 0) × (w ≡ 0) = zeros _ _ none in
          let readers : r - 1 ≡ 0 = both.0 in
          let writers : w ≡ 0 = both.1 in
          omega (arith, count-within c.stakes, count-within ys, moves _ _ _ _ one)
      by false some one = omega (arith, count-within c.stakes, count-within ys, moves _ _ _ _ one)
  repay_keeps Write r w one owes room = by (r == 0 && w - 1 == 0) refl one
    where
      by : (t : Bool) → (r == 0 && w - 1 == 0) ≡ t
          → ChangesOneStake c.stakes (stake.Drains r w) ys (if t then stake.Free else stake.Drains r (w - 1))
          → IsBalanced (changed c ys (adds_signal Write)) n
      by true none one =
          let both : (r ≡ 0) × (w - 1 ≡ 0) = zeros _ _ none in
          let readers : r ≡ 0 = both.0 in
          let writers : w - 1 ≡ 0 = both.1 in
          omega (arith, count-within c.stakes, count-within ys, moves _ _ _ _ one)
      by false some one = omega (arith, count-within c.stakes, count-within ys, moves _ _ _ _ one)

  pub wake_keeps : (d : Dir) → ChangesOneStake c.stakes (stake.Waits d) ys stake.Free → signals_in d c.signals ≢ 0
      → IsBalanced (changed c ys (takes_signal d)) n
  wake_keeps Read one some = omega (arith, count-within c.stakes, count-within ys, moves _ _ _ _ one)
  wake_keeps Write one some = omega (arith, count-within c.stakes, count-within ys, moves _ _ _ _ one)

  pub destroy_keeps : ChangesOneStake c.stakes stake.Last ys stake.Free → IsBalanced (changed c ys destroys) n
  destroy_keeps one = omega (arith, count-within c.stakes, count-within ys, moves _ _ _ _ one)
