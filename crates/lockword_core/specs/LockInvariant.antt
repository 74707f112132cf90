-- What holds of every state that operations lead to.
use Rattle.std.specs.Prelude.{◌≡◌, ◌==◌, ◌+◌, ◌≤◌, true, ◌&&◌, ℕ, List}
use Rattle.std.specs.Ordering.{nat_cmp}
use Rattle.std.specs.Map.{keys_of}
use Rattle.std.specs.List.Sorted.{IsStrictlySortedBy}
use Rattle.base_types.specs.declared.direction.Dir.{Dir}
use Rattle.base_types.specs.declared.direction.Dir.TheVariants.{Read, Write}
use Rattle.lockword_core.specs.declared.stake.Stake.{Stake}
use Rattle.lockword_core.specs.declared.word.TheConstants.{MAX_REFERENCES, MAX_WAITERS}
use Rattle.lockword_core.specs.declared.signals.TheConstants.{MAX_SIGNALS}
use Rattle.lockword_core.specs.Signals.{signals_in}
use Rattle.lockword_core.specs.Word.{bit}
use Rattle.lockword_core.specs.LockState.{LockState, Census, census, Counted, references, locks}
use Rattle.lockword_core.specs.LockState.{queued, owed, closers, drainers, lasts, part, count}
use Rattle.lockword_core.specs.LockState.{number, pending}

-- what holds of one direction
pub record IsConsistentWay (c : Census) (d : Dir) : Type 0 where
  -- at most one holder has the lock
  pub one_lock : number (locks d) c ≤ 1
  -- each signal, owed or given, has its waiter
  pub signals_have_waiters : number (owed d) c + signals_in d c.signals ≤ number (queued d) c
  pub waiters_fit : pending d c ≤ MAX_WAITERS
  pub signals_fit : signals_in d c.signals ≤ MAX_SIGNALS
  -- once closed, each waiter's signal is owed or given
  pub none_pending_when_closed : c.closed ≡ true → pending d c ≡ 0
  -- once drained, each waiter's signal is owed or given
  pub none_pending_when_draining : c.draining ≡ true → pending d c ≡ 0

-- what holds of a state without its names
pub record IsConsistentCensus (c : Census) : Type 0 where
  pub reading : IsConsistentWay c Read
  pub writing : IsConsistentWay c Write
  pub references_fit : number references c ≤ MAX_REFERENCES
  -- at most one holder closes, and only a closed descriptor has one
  pub one_closer : number closers c ≤ bit c.closed
  -- at most one holder drains, and only a drained descriptor has one
  pub one_drainer : number drainers c ≤ bit c.draining
  -- a closed descriptor without references has one `Last` or was destroyed, and no other has either
  pub one_last : number lasts c + bit c.destroyed ≡ bit (c.closed && (number references c == 0))

-- what holds of a state: its names rise, and its census is consistent
pub record IsConsistent (state : LockState) : Type 0 where
  pub names : IsStrictlySortedBy nat_cmp (keys_of state.holders)
  pub counts : IsConsistentCensus (census state)

-- one holder's stake changes from `old` to `new`, and `others` is what all others add to each count
pub record ChangesOneStake (before : List Stake) (old : Stake) (after : List Stake)
    (new : Stake) : Type 0 where
  pub others : Counted → ℕ
  pub counted_before : (what : Counted) → count what before ≡ part what old + others what
  pub counted_after : (what : Counted) → count what after ≡ part what new + others what

-- a holder with this stake is among those counted
pub record IsCounted (c : Census) (own : Stake) : Type 0 where
  pub at_least : (what : Counted) → part what own ≤ number what c
