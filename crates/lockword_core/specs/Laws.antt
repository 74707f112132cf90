-- What the definitions come to, in the words of the subject.
use Rattle.std.specs.Prelude.{◌≡◌, ℕ, Bool, true, false, List, ◌∷◌, ◌++◌}
use Rattle.base_types.specs.declared.direction.Dir.TheVariants.{Read, Write}
use Rattle.lockword_core.specs.declared.word.Word.{Word}
use Rattle.lockword_core.specs.declared.stake.Event.{Event}
use Rattle.lockword_core.specs.declared.stake.Op.{Op}
use Rattle.lockword_core.specs.declared.stake.Answer.{Answer}
use Rattle.lockword_core.specs.declared.stake.Answer.TheVariants as answer
use Rattle.lockword_core.specs.Word.{bit}
use Rattle.lockword_core.specs.LockState.{LockState, empty, census, references, locks, number}
use Rattle.lockword_core.specs.LockState.{pending}
use Rattle.lockword_core.specs.Transition.{transition}
use Rattle.lockword_core.specs.Replay.{state_after}

-- the seven fields are the flags and the counts over the stakes that the holders have
pub record CountsStakes (fields : Word) (s : LockState) : Type 0 where
  pub flag : fields.closed ≡ s.closed
  pub read_lock : bit fields.rlock ≡ number (locks Read) (census s)
  pub write_lock : bit fields.wlock ≡ number (locks Write) (census s)
  pub references : fields.refs ≡ number references (census s)
  pub read_waiters : fields.rwait ≡ pending Read (census s)
  pub write_waiters : fields.wwait ≡ pending Write (census s)
  pub drain : fields.drain ≡ s.draining

-- the answer is `done`
abbrev pub is_done : Answer → Bool
is_done answer.Done = true
is_done _ = false

-- the answer is `last`
abbrev pub is_last : Answer → Bool
is_last answer.Last = true
is_last _ = false

-- one of the events is this holder's, it was answered `last`, and after it the descriptor was
-- closed and had no reference
pub record ReturnedTheLast (events : List Event) (holder : ℕ) : Type 0 where
  pub earlier : List Event
  pub op : Op
  pub later : List Event
  pub among : events ≡ earlier ++ record { holder = holder; op = op } ∷ later
  pub answered : (transition (state_after empty earlier) holder op).1 ≡ answer.Last
  pub closed : (transition (state_after empty earlier) holder op).0.closed ≡ true
  pub unused : number references (census (transition (state_after empty earlier) holder op).0) ≡ 0
