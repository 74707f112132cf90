-- The abstract state of a lock word: which holder has which stake. There is no word in it; the word
-- is what the counts over the stakes give.
use Rattle.std.specs.Prelude.{◌+◌, ◌-◌, ◌*◌, ℕ, Bool, true, false, List, [], Option, None, is_some}
use Rattle.std.specs.Prelude.{unwrap_or, sum_by}
use Rattle.std.specs.Ordering.{nat_cmp}
use Rattle.std.specs.Map.{lookup, values_of}
use Rattle.std.specs.BTreeMap.{is_at}
use Rattle.base_types.specs.declared.direction.Dir.{Dir}
use Rattle.base_types.specs.declared.direction.Dir.TheVariants.{Read, Write}
use Rattle.lockword_core.specs.declared.stake.Stake.{Stake}
use Rattle.lockword_core.specs.declared.stake.Stake.TheVariants as stake
use Rattle.lockword_core.specs.declared.signals.Signals.{Signals}
use Rattle.lockword_core.specs.declared.word.TheConstants.{CLOSED, READ_LOCK, WRITE_LOCK, REFERENCE}
use Rattle.lockword_core.specs.declared.word.TheConstants.{READ_WAITER, WRITE_WAITER, DRAIN}
use Rattle.lockword_core.specs.Signals.{signals_in}
use Rattle.lockword_core.specs.Word.{bit}

-- holders by rising names, of whom one that isn't there is `Free`; whether the descriptor is
-- closed, and whether it is drained; the signals that nobody took yet; and who destroyed, if
-- somebody did
pub record LockState : Type 0 where
  pub holders : List (ℕ × Stake)
  pub closed : Bool
  pub draining : Bool
  pub signals : Signals
  pub destroyed_by : Option ℕ

-- the state before anything happened
abbrev pub empty : LockState
empty =
    record {
      holders = [];
      closed = false;
      draining = false;
      signals = record { read = 0; write = 0 };
      destroyed_by = None;
    }

-- what this holder has
abbrev pub stake_of : LockState → ℕ → Stake
stake_of state holder = unwrap_or (lookup (is_at (nat_cmp holder)) state.holders) stake.Free

-- a state without the holders' names, which no count and no answer needs
pub record Census : Type 0 where
  pub stakes : List Stake
  pub closed : Bool
  pub draining : Bool
  pub signals : Signals
  pub destroyed : Bool

-- the state without its names
abbrev pub census : LockState → Census
census state =
    record {
      stakes = values_of state.holders;
      closed = state.closed;
      draining = state.draining;
      signals = state.signals;
      destroyed = is_some state.destroyed_by;
    }

-- what is counted over the holders
pub data Counted : Type 0 where
  references : Counted
  locks : Dir → Counted
  queued : Dir → Counted
  owed : Dir → Counted
  closers : Counted
  drainers : Counted
  lasts : Counted

-- two directions are the same
abbrev pub is_same : Dir → Dir → Bool
is_same Read Read = true
is_same Write Write = true
is_same _ _ = false

-- the signals that a closer or a drainer still owes in a direction, of both parts
abbrev pub owed_part : Dir → ℕ → ℕ → ℕ
owed_part Read r w = r
owed_part Write r w = w

-- what one stake adds to a count
abbrev pub part : Counted → Stake → ℕ
part references stake.Ref = 1
part references stake.Read = 1
part references stake.Write = 1
part references (stake.Closing r w) = 1
part (locks d) stake.Read = bit (is_same d Read)
part (locks d) stake.Write = bit (is_same d Write)
part (queued d) (stake.Waits e) = bit (is_same d e)
part (owed d) (stake.Owes e) = bit (is_same d e)
part (owed d) (stake.Closing r w) = owed_part d r w
part (owed d) (stake.Drains r w) = owed_part d r w
part closers (stake.Closing r w) = 1
part drainers (stake.Drains r w) = 1
part lasts stake.Last = 1
part _ _ = 0

-- the sum of what the stakes add
unfoldable pub count : Counted → List Stake → ℕ
count what stakes = sum_by (part what) stakes

-- a count over all holders
abbrev pub number : Counted → Census → ℕ
number what c = count what c.stakes

-- waiters whom nobody is bound to signal, and for whom no signal lies ready
abbrev pub pending : Dir → Census → ℕ
pending d c = number (queued d) c - (number (owed d) c + signals_in d c.signals)

-- the word that the counts give
abbrev pub encoded : Census → ℕ
encoded c =
    CLOSED * bit c.closed + READ_LOCK * number (locks Read) c + WRITE_LOCK * number (locks Write) c
    + REFERENCE * number references c + READ_WAITER * pending Read c
    + WRITE_WAITER * pending Write c + DRAIN * bit c.draining
