-- The packed word and its seven fields.
use Rattle.std.specs.Prelude.{◌==◌, ◌≤◌, ◌+◌, ◌*◌, ◌/◌, ◌%◌, ℕ, Bool, true, false}
use Rattle.base_types.specs.declared.direction.Dir.{Dir}
use Rattle.base_types.specs.declared.direction.Dir.TheVariants.{Read, Write}
use Rattle.lockword_core.specs.declared.word.Word.{Word}
use Rattle.lockword_core.specs.declared.word.TheConstants.{CLOSED, READ_LOCK, WRITE_LOCK, REFERENCE}
use Rattle.lockword_core.specs.declared.word.TheConstants.{READ_WAITER, WRITE_WAITER, DRAIN}
use Rattle.lockword_core.specs.declared.word.TheConstants.{MAX_REFERENCES, MAX_WAITERS}

-- a bit as a number
abbrev pub bit : Bool → ℕ
bit true = 1
bit false = 0

-- each count is at most its greatest value
pub record IsWord (fields : Word) : Type 0 where
  pub refs_fit : fields.refs ≤ MAX_REFERENCES
  pub rwait_fits : fields.rwait ≤ MAX_WAITERS
  pub wwait_fits : fields.wwait ≤ MAX_WAITERS

-- the word with these fields: each field times what one of it adds
abbrev pub packed : Word → ℕ
packed fields =
    CLOSED * bit fields.closed + READ_LOCK * bit fields.rlock + WRITE_LOCK * bit fields.wlock
    + REFERENCE * fields.refs + READ_WAITER * fields.rwait + WRITE_WAITER * fields.wwait
    + DRAIN * bit fields.drain

-- what the lock of a direction adds to a word
abbrev pub lock_unit : Dir → ℕ
lock_unit Read = READ_LOCK
lock_unit Write = WRITE_LOCK

-- what a waiter of a direction adds to a word
abbrev pub waiter_unit : Dir → ℕ
waiter_unit Read = READ_WAITER
waiter_unit Write = WRITE_WAITER

-- the closed flag of a word
abbrev pub closed_in : ℕ → Bool
closed_in word = word % READ_LOCK == CLOSED

-- the drain flag of a word
abbrev pub drain_in : ℕ → Bool
drain_in word = word / DRAIN == 1

-- the lock bit of a direction
abbrev pub lock_in : Dir → ℕ → ℕ
lock_in d word = word / lock_unit d % 2

-- the references of a word
abbrev pub references_in : ℕ → ℕ
references_in word = word / REFERENCE % (MAX_REFERENCES + 1)

-- the waiters of a direction
abbrev pub waiters_in : Dir → ℕ → ℕ
waiters_in d word = word / waiter_unit d % (MAX_WAITERS + 1)
