-- The word's first layout, which differs from the present one in the widths of its counts.
use Rattle.std.specs.Prelude.{◌≡◌, ◌≤◌, ◌+◌, ◌*◌, ℕ}
use Rattle.base_types.specs.declared.direction.Dir.TheVariants.{Read, Write}
use Rattle.lockword_core.specs.declared.word.Word.{Word}
use Rattle.lockword_core.specs.declared.word.TheConstants.{CLOSED, READ_LOCK, WRITE_LOCK}
use Rattle.lockword_core.specs.declared.word.TheConstants.{REFERENCE, DRAIN}
use Rattle.lockword_core.specs.declared.layout_one.TheConstants.{READ_WAITER, WRITE_WAITER}
use Rattle.lockword_core.specs.declared.layout_one.TheConstants.{MAX_REFERENCES, MAX_WAITERS}
use Rattle.lockword_core.specs.Word.{bit}
use Rattle.lockword_core.specs.LockState.{Census, references, locks, number, pending}

-- each count is at most the layout's greatest value
pub record IsFirstWord (fields : Word) : Type 0 where
  pub refs_fit : fields.refs ≤ MAX_REFERENCES
  pub rwait_fits : fields.rwait ≤ MAX_WAITERS
  pub wwait_fits : fields.wwait ≤ MAX_WAITERS

-- the word with these fields: each field times what one of it adds
abbrev pub first_packed : Word → ℕ
first_packed fields =
    CLOSED * bit fields.closed + READ_LOCK * bit fields.rlock + WRITE_LOCK * bit fields.wlock
    + REFERENCE * fields.refs + READ_WAITER * fields.rwait + WRITE_WAITER * fields.wwait
    + DRAIN * bit fields.drain

-- the word has these fields
pub record HasFirstFields (word : ℕ) (fields : Word) : Type 0 where
  pub fit : IsFirstWord fields
  pub sum : word ≡ first_packed fields

-- the word that the counts give
abbrev pub first_encoded : Census → ℕ
first_encoded c =
    CLOSED * bit c.closed + READ_LOCK * number (locks Read) c + WRITE_LOCK * number (locks Write) c
    + REFERENCE * number references c + READ_WAITER * pending Read c
    + WRITE_WAITER * pending Write c + DRAIN * bit c.draining
