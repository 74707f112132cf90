-- What the operations that were made add up to, where none was refused.
use Rattle.std.specs.Prelude.{◌≡◌, ◌==◌, ◌+◌, ℕ, Bool, true, false, List, [], ◌∷◌, count_by}
use Rattle.std.specs.Prelude.{if◌then◌else◌}
use Rattle.base_types.specs.declared.direction.Dir.{Dir}
use Rattle.base_types.specs.declared.direction.Dir.TheVariants.{Read, Write}
use Rattle.lockword_core.specs.declared.stake.Event.{Event}
use Rattle.lockword_core.specs.declared.stake.Op.{Op}
use Rattle.lockword_core.specs.declared.stake.Op.TheVariants as op
use Rattle.lockword_core.specs.declared.stake.Answer.{Answer}
use Rattle.lockword_core.specs.declared.stake.Answer.TheVariants as answer
use Rattle.lockword_core.specs.Signals.{signals_in}
use Rattle.lockword_core.specs.Word.{bit}
use Rattle.lockword_core.specs.LockState.{Census, empty, is_same, references, queued, number}
use Rattle.lockword_core.specs.Replay.{answers_of}

-- the operation asks for a reference, a lock or the close
abbrev pub is_taking : Op → Bool
is_taking op.Incref = true
is_taking (op.Lock d) = true
is_taking op.Close = true
is_taking _ = false

-- the operation gives one back, or leaves the queue for a lock
abbrev pub is_returning : Op → Bool
is_returning op.Decref = true
is_returning (op.Unlock d) = true
is_returning (op.Wake d) = true
is_returning _ = false

-- the operation gives a signal of this direction
abbrev pub is_signal : Dir → Op → Bool
is_signal d (op.Signal e) = is_same d e
is_signal d _ = false

-- the operation takes a signal of this direction
abbrev pub is_wake : Dir → Op → Bool
is_wake d (op.Wake e) = is_same d e
is_wake d _ = false

-- the operation is the close
abbrev pub is_close : Op → Bool
is_close op.Close = true
is_close _ = false

-- the operation is the drain
abbrev pub is_drain : Op → Bool
is_drain op.Drain = true
is_drain _ = false

-- the operation is the destroy
abbrev pub is_destroy : Op → Bool
is_destroy op.Destroy = true
is_destroy _ = false

-- the answer refuses the operation
abbrev pub is_refusal : Answer → Bool
is_refusal answer.Misuse = true
is_refusal answer.Closed = true
is_refusal answer.TooMany = true
is_refusal answer.Full = true
is_refusal answer.NotYet = true
is_refusal answer.Draining = true
is_refusal _ = false

-- no event of the list is refused
abbrev pub NoneRefused : List Event → Type 0
NoneRefused events = count_by is_refusal (answers_of empty events) ≡ 0

-- how many of the events are such an operation
abbrev pub made_in : List Event → (Op → Bool) → ℕ
made_in events what = count_by (λ e. what e.op) events

-- the operations of one holder, in order
abbrev pub operations_of : ℕ → List Event → List Op
operations_of holder [] = []
operations_of holder (e ∷ events) =
    if e.holder == holder then e.op ∷ operations_of holder events else operations_of holder events

-- operations, of which `made` tells how many there were of each sort, lead to what the census has
pub record AddsUp (made : (Op → Bool) → ℕ) (c : Census) : Type 0 where
  -- what was taken is held or queued for, or was given back
  pub taken :
      made is_taking
      ≡ number references c + number (queued Read) c + number (queued Write) c + made is_returning
  -- a signal that was given lies ready, or was taken
  pub signalled : (d : Dir) → made (is_signal d) ≡ signals_in d c.signals + made (is_wake d)
  -- the close was made once if the descriptor is closed, and else never
  pub closed : made is_close ≡ bit c.closed
  -- the drain was made once if it is drained, and else never
  pub drained : made is_drain ≡ bit c.draining
  -- the destroy was made once if it is destroyed, and else never
  pub destroyed : made is_destroy ≡ bit c.destroyed
