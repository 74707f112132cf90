-- What one operation of one holder answers and changes.
use Rattle.std.specs.Prelude.{◌==◌, nat_lt, ◌+◌, ◌-◌, ℕ, Bool, true, false, ◌&&◌, List, Some}
use Rattle.std.specs.Prelude.{if◌then◌else◌}
use Rattle.std.specs.Ordering.{nat_cmp}
use Rattle.std.specs.BTreeMap.{insert_entry}
use Rattle.base_types.specs.declared.direction.Dir.{Dir}
use Rattle.base_types.specs.declared.direction.Dir.TheVariants.{Read, Write}
use Rattle.lockword_core.specs.declared.stake.Stake.{Stake}
use Rattle.lockword_core.specs.declared.stake.Stake.TheVariants as stake
use Rattle.lockword_core.specs.declared.stake.Op.{Op}
use Rattle.lockword_core.specs.declared.stake.Op.TheVariants as op
use Rattle.lockword_core.specs.declared.stake.Answer.{Answer}
use Rattle.lockword_core.specs.declared.stake.Answer.TheVariants as answer
use Rattle.lockword_core.specs.declared.word.TheConstants.{MAX_REFERENCES, MAX_WAITERS}
use Rattle.lockword_core.specs.declared.signals.TheConstants.{MAX_SIGNALS}
use Rattle.lockword_core.specs.Signals.{signals_in, with_signals}
use Rattle.lockword_core.specs.LockState.{LockState, Census, census, stake_of, references, locks}
use Rattle.lockword_core.specs.LockState.{number, pending, is_same, owed_part}

-- the stake lets its holder ask this; any other operation is a misuse
abbrev pub allows : Stake → Op → Bool
allows stake.Free op.Incref = true
allows stake.Free (op.Lock d) = true
allows stake.Free op.Close = true
allows stake.Free op.Drain = true
allows stake.Ref op.Decref = true
allows (stake.Closing r w) op.Decref = r == 0 && w == 0
allows stake.Read (op.Unlock d) = is_same d Read
allows stake.Write (op.Unlock d) = is_same d Write
allows (stake.Owes e) (op.Signal d) = is_same d e
allows (stake.Closing r w) (op.Signal d) = nat_lt 0 (owed_part d r w)
allows (stake.Drains r w) (op.Signal d) = nat_lt 0 (owed_part d r w)
allows (stake.Waits e) (op.Wake d) = is_same d e
allows stake.Last op.Destroy = true
allows _ _ = false

-- what changes beside the stake of the holder that acts
pub data Change : Type 0 where
  nothing : Change
  closes : Change
  drains : Change
  adds_signal : Dir → Change
  takes_signal : Dir → Change
  destroys : Change

-- a refusal changes nothing; else the holder has a new stake
pub data Outcome : Type 0 where
  refused : Answer → Outcome
  moved : Answer → Stake → Change → Outcome

-- the stake of the holder of a direction's lock
abbrev pub lock_stake : Dir → Stake
lock_stake Read = stake.Read
lock_stake Write = stake.Write

-- the stake of the holder that drained and owes these signals: nothing where it owes none
abbrev pub drains_stake : ℕ → ℕ → Stake
drains_stake r w = if r == 0 && w == 0 then stake.Free else stake.Drains r w

-- the stake that is left once one signal of a direction was given
abbrev pub stake_after_signal : Dir → Stake → Stake
stake_after_signal Read (stake.Closing r w) = stake.Closing (r - 1) w
stake_after_signal Write (stake.Closing r w) = stake.Closing r (w - 1)
stake_after_signal Read (stake.Drains r w) = drains_stake (r - 1) w
stake_after_signal Write (stake.Drains r w) = drains_stake r (w - 1)
stake_after_signal _ _ = stake.Free

-- a reference is given back: the last one after a close leaves `Last`; the holder that acts is
-- itself counted
abbrev pub drop_outcome : Census → Outcome
drop_outcome c =
    if c.closed && (number references c == 1) then moved answer.Last stake.Last nothing
    else moved answer.Kept stake.Free nothing

-- a reference is taken
abbrev pub incref_outcome : Census → Outcome
incref_outcome c =
    if c.closed then refused answer.Closed
    else if c.draining then refused answer.Draining
    else if number references c == MAX_REFERENCES then refused answer.TooMany
    else moved answer.Held stake.Ref nothing

-- the lock of a direction is taken, or where somebody has it a place in its queue
abbrev pub lock_outcome : Dir → Census → Outcome
lock_outcome d c =
    if c.closed then refused answer.Closed
    else if c.draining then refused answer.Draining
    else if number (locks d) c == 0 then (
    if number references c == MAX_REFERENCES then refused answer.TooMany
    else moved answer.Held (lock_stake d) nothing)
    else if pending d c == MAX_WAITERS then refused answer.TooMany
    else moved answer.Queued (stake.Waits d) nothing

-- the lock of a direction is given back, with a signal owed where somebody waits for one
abbrev pub unlock_outcome : Dir → Census → Outcome
unlock_outcome d c =
    if pending d c == 0 then drop_outcome c
    else moved answer.Owes (stake.Owes d) nothing

-- the descriptor is closed, and all signals that waiters wait for are owed
abbrev pub close_outcome : Census → Outcome
close_outcome c =
    if c.closed then refused answer.Closed
    else if number references c == MAX_REFERENCES then refused answer.TooMany
    else moved answer.Closing (stake.Closing (pending Read c) (pending Write c)) closes

-- the descriptor is drained, and all signals that waiters wait for are owed
abbrev pub drain_outcome : Census → Outcome
drain_outcome c =
    if c.closed then refused answer.Closed
    else if c.draining then refused answer.Draining
    else moved answer.Drained (drains_stake (pending Read c) (pending Write c)) drains

-- a signal is given, after which the holder has this stake
abbrev pub signal_outcome : Dir → Census → Stake → Outcome
signal_outcome d c left =
    if signals_in d c.signals == MAX_SIGNALS then refused answer.Full
    else moved answer.Signalled left (adds_signal d)

-- a signal is taken
abbrev pub wake_outcome : Dir → Census → Outcome
wake_outcome d c =
    if signals_in d c.signals == 0 then refused answer.NotYet
    else moved answer.Woken stake.Free (takes_signal d)

-- what an operation that the stake allows comes to
abbrev pub allowed_outcome : Census → Stake → Op → Outcome
allowed_outcome c own op.Incref = incref_outcome c
allowed_outcome c own op.Decref = drop_outcome c
allowed_outcome c own (op.Lock d) = lock_outcome d c
allowed_outcome c own (op.Unlock d) = unlock_outcome d c
allowed_outcome c own (op.Signal d) = signal_outcome d c (stake_after_signal d own)
allowed_outcome c own (op.Wake d) = wake_outcome d c
allowed_outcome c own op.Close = close_outcome c
allowed_outcome c own op.Drain = drain_outcome c
allowed_outcome c own op.Destroy = moved answer.Done stake.Free destroys

-- what an operation of a holder with this stake comes to
abbrev pub outcome : Census → Stake → Op → Outcome
outcome c own o = if allows own o then allowed_outcome c own o else refused answer.Misuse

-- the census once these are the stakes, and this changed beside them
abbrev pub changed : Census → List Stake → Change → Census
changed c stakes nothing = record c { stakes = stakes }
changed c stakes closes = record c { stakes = stakes; closed = true }
changed c stakes drains = record c { stakes = stakes; draining = true }
changed c stakes (adds_signal d) =
    record c { stakes = stakes; signals = with_signals d (signals_in d c.signals + 1) c.signals }
changed c stakes (takes_signal d) =
    record c { stakes = stakes; signals = with_signals d (signals_in d c.signals - 1) c.signals }
changed c stakes destroys = record c { stakes = stakes; destroyed = true }

-- the state once this holder has this stake
abbrev pub with_stake : LockState → ℕ → Stake → LockState
with_stake state holder own =
    record state { holders = insert_entry nat_cmp state.holders holder own }

-- the state once this changed beside the stakes, by this holder
abbrev pub with_change : LockState → ℕ → Change → LockState
with_change state holder nothing = state
with_change state holder closes = record state { closed = true }
with_change state holder drains = record state { draining = true }
with_change state holder (adds_signal d) =
    record state { signals = with_signals d (signals_in d state.signals + 1) state.signals }
with_change state holder (takes_signal d) =
    record state { signals = with_signals d (signals_in d state.signals - 1) state.signals }
with_change state holder destroys = record state { destroyed_by = Some holder }

-- the state and the answer that an outcome leads to
abbrev pub carried_out : LockState → ℕ → Outcome → LockState × Answer
carried_out state holder (refused a) = (state, a)
carried_out state holder (moved a own change) =
    (with_change (with_stake state holder own) holder change, a)

-- the state and the answer after one operation of one holder
abbrev pub transition : LockState → ℕ → Op → LockState × Answer
transition state holder o =
    carried_out state holder (outcome (census state) (stake_of state holder) o)
