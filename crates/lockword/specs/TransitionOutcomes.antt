-- What each call answers: the marks of the seat that comes back, and what a load told.
use Rattle.std.specs.Prelude.{◌≡◌, ◌<◌, ◌-◌}
use Rattle.lockword.specs.Words.{true, false, Dir, Stake, Word, IsWord, bit}
use Rattle.lockword_core.specs.declared.stake.Stake.TheVariants as stake
use Rattle.lockword_core.specs.declared.stake.Op.TheVariants as op
use Rattle.lockword_core.specs.declared.stake.Answer.TheVariants as answer
use Rattle.lockword_core.specs.declared.transition.Kind.TheVariants as kind
use Rattle.lockword_core.specs.declared.transition.After.TheVariants as after
use Rattle.lockword_core.specs.declared.word.TheConstants.{MAX_REFERENCES}
use Rattle.lockword.specs.declared.holders.LockWord.{LockWord}
use Rattle.lockword.specs.declared.holders.Incref.{Incref}
use Rattle.lockword.specs.declared.holders.Incref.TheVariants as incref
use Rattle.lockword.specs.declared.holders.Drain.{Drain}
use Rattle.lockword.specs.declared.holders.Drain.TheVariants as drain
use Rattle.lockword.specs.declared.holders.Close.{Close}
use Rattle.lockword.specs.declared.holders.Close.TheVariants as close
use Rattle.lockword.specs.declared.directions.Direction.{Ghosts}
use Rattle.lockword.specs.declared.directions.Guards as guards
use Rattle.lockword.specs.declared.holders.Lock.{Lock}
use Rattle.lockword.specs.declared.holders.Lock.TheVariants as lock
use Rattle.lockword.specs.declared.holders.Unlock.{Unlock}
use Rattle.lockword.specs.declared.holders.Unlock.TheVariants as unlock
use Rattle.lockword.specs.declared.holders.Signal.{Signal}
use Rattle.lockword.specs.declared.holders.Signal.TheVariants as signal
use Rattle.lockword.specs.declared.holders.SignalClosing.{SignalClosing}
use Rattle.lockword.specs.declared.holders.SignalClosing.TheVariants as signal_closing
use Rattle.lockword.specs.declared.holders.SignalDrains.{SignalDrains}
use Rattle.lockword.specs.declared.holders.SignalDrains.TheVariants as signal_drains
use Rattle.lockword.specs.declared.holders.Wake.{Wake}
use Rattle.lockword.specs.declared.holders.Wake.TheVariants as wake
use Rattle.lockword.specs.declared.holders.Owing.{Owing}
use Rattle.lockword.specs.declared.holders.Closing.{Closing}
use Rattle.lockword.specs.declared.holders.Drains.{Drains}
use Rattle.lockword.specs.declared.holders.Waiting.{Waiting}
use Rattle.lockword_core.specs.LockState.{is_same}
use Rattle.lockword.specs.Marks.{WordId, Place, word_of, saw_closed, saw_draining, saw_done}
use Rattle.lockword.specs.Marks.{SameMarks, NowClosed, Did, DidNothing, SameDeeds, Showed, Heard}
use Rattle.lockword.specs.Marks.{Made, LostStep, FoundClosed, FoundDraining, FoundFull}
use Rattle.lockword.specs.Places.{seat_place, ref_place, closing_place, owed_by, last_place}
use Rattle.lockword.specs.Places.{drains_place, drains_owed}
use Rattle.lockword.specs.Places.{lock_place, wait_place, owing_place, owing_way}
pub use Rattle.lockword.specs.Marks.{HasTaken, HasNotTaken}

-- a word at the limit of references, without the flag
abbrev pub IsAtLimit : Word → Type 0
IsAtLimit w = (w.closed ≡ false) × (w.refs ≡ MAX_REFERENCES)

module _ {R W : Type 0} where
  -- the id of a word
  abbrev pub word_id : LockWord R W → WordId
  word_id w = w.table.shared.table_id

  -- the seat is one of this word's
  abbrev pub IsSeatOf : LockWord R W → Place R W → Type 0
  IsSeatOf w p = word_of p ≡ word_id w

  -- the stake is as before, and so are the halves that are taken
  abbrev pub SameStake : Place R W → Place R W → Type 0
  SameStake p q = (q.me.0.stake ≡ p.me.0.stake) × (q.me.0.took ≡ p.me.0.took)

  -- a reference is held by a seat that has seen the word neither closed nor draining
  abbrev pub AnswersIncref : Place R W → Incref R W → Type 0
  AnswersIncref p (incref.Held r) = Made kind.Incref after.Held p (ref_place r)
  AnswersIncref p (incref.Closed s) = FoundClosed p (seat_place s)
  AnswersIncref p (incref.TooMany s w) = FoundFull kind.Incref p (seat_place s) w
  AnswersIncref p (incref.Lost s) = LostStep kind.Incref p (seat_place s)
  AnswersIncref p (incref.Draining s) = FoundDraining p (seat_place s)

  -- only a seat that has seen the word neither closed nor draining drains it, and then it has seen
  -- it; it owes the signals that were counted, or nothing where nobody waited
  abbrev pub AnswersDrain : Place R W → Drain R W → Type 0
  AnswersDrain p (drain.Drained s) = Made kind.Drain (after.Drained 0 0) p (seat_place s)
  AnswersDrain p (drain.Owes o) =
      Made kind.Drain (after.Drained o.owed_read o.owed_write) p (drains_place o)
  AnswersDrain p (drain.Closed s) = FoundClosed p (seat_place s)
  AnswersDrain p (drain.Draining s) = FoundDraining p (seat_place s)
  AnswersDrain p (drain.Lost s) = LostStep kind.Drain p (seat_place s)

  -- only a seat that has not seen the word closed closes it, and then it has
  abbrev pub AnswersClose : Place R W → Close R W → Type 0
  AnswersClose p (close.Closing c) =
      Made kind.Close (after.Closing c.owed_read c.owed_write) p (closing_place c)
  AnswersClose p (close.Closed s) = FoundClosed p (seat_place s)
  AnswersClose p (close.TooMany s w) = FoundFull kind.Close p (seat_place s) w
  AnswersClose p (close.Lost s) = LostStep kind.Close p (seat_place s)

  -- a lock, or a place in its queue, is had by a seat that has seen the word neither closed nor
  -- draining
  abbrev pub AnswersLock : {D G : Type 0} {kept : guards.Ghosts D R W G} {way : Ghosts D} → Place R W
      → Lock D R W G kept way
      → Type 0
  AnswersLock {way = way} p (lock.Held l) = Made (kind.Lock way.dir) after.Held p (lock_place l)
  AnswersLock {way = way} p (lock.Queued q) = Made (kind.Lock way.dir) after.Queued p (wait_place q)
  AnswersLock p (lock.Closed s) = FoundClosed p (seat_place s)
  AnswersLock {way = way} p (lock.TooMany s w) = FoundFull (kind.Lock way.dir) p (seat_place s) w
  AnswersLock {way = way} p (lock.Lost s) = LostStep (kind.Lock way.dir) p (seat_place s)
  AnswersLock p (lock.Draining s) = FoundDraining p (seat_place s)

  -- a signal is owed by a seat that has seen the word neither closed nor draining alone
  abbrev pub AnswersUnlock : {D G : Type 0} {kept : guards.Ghosts D R W G} {way : Ghosts D} → Place R W
      → Unlock D R W G kept way
      → Type 0
  AnswersUnlock {way = way} p (unlock.Free s) = Made (kind.Unlock way.dir) after.Kept p (seat_place s)
  AnswersUnlock {way = way} p (unlock.Owes o) =
      Made (kind.Unlock way.dir) after.Owes p (owing_place o) × (owing_way o ≡ way.dir)
  AnswersUnlock {way = way} p (unlock.Last l) = Made (kind.Unlock way.dir) after.Last p (last_place l)
  AnswersUnlock {way = way} p (unlock.Lost l) = LostStep (kind.Unlock way.dir) p (lock_place l)

  -- a signal was not given: marks, direction, deeds and what was heard are as before
  abbrev pub StillOwes : Owing R W → Owing R W → Type 0
  StillOwes o n =
      SameMarks (owing_place o) (owing_place n) × (owing_way n ≡ owing_way o)
      × DidNothing (owing_place o) (owing_place n)

  -- a signal changes no mark
  abbrev pub AnswersSignal : Owing R W → Signal R W → Type 0
  AnswersSignal o (signal.Signalled s) =
      SameMarks (owing_place o) (seat_place s)
      × Did (op.Signal (owing_way o)) answer.Signalled (owing_place o) (seat_place s)
  AnswersSignal o (signal.Full n) = StillOwes o n
  AnswersSignal o (signal.Lost n) = StillOwes o n

  -- a closer gave no signal, and owes what it owed
  abbrev pub StillOwesAll : Closing R W → Closing R W → Type 0
  StillOwesAll c n =
      NowClosed (closing_place c) (closing_place n) × DidNothing (closing_place c) (closing_place n)
      × ((e : Dir) → owed_by n e ≡ owed_by c e)

  -- a signal that a closer gives is owed no more; in the other direction as many are owed as before
  abbrev pub AnswersSignalClosing : Closing R W → Dir → SignalClosing R W → Type 0
  AnswersSignalClosing c d (signal_closing.Signalled n) =
      NowClosed (closing_place c) (closing_place n)
      × ((e : Dir) → owed_by n e ≡ owed_by c e - bit (is_same d e))
      × Did (op.Signal d) answer.Signalled (closing_place c) (closing_place n)
  AnswersSignalClosing c d (signal_closing.Full n) = StillOwesAll c n
  AnswersSignalClosing c d (signal_closing.Lost n) = StillOwesAll c n

  -- a drainer gave no signal: marks, deeds and what was heard are as before, and it owes what it
  -- owed
  abbrev pub StillDrains : Drains R W → Drains R W → Type 0
  StillDrains o n =
      SameMarks (drains_place o) (drains_place n) × DidNothing (drains_place o) (drains_place n)
      × ((e : Dir) → drains_owed n e ≡ drains_owed o e)

  -- a signal that a drainer gives is owed no more; in the other direction as many are owed as
  -- before; once it was the only one that was owed, nothing is
  abbrev pub AnswersSignalDrains : Drains R W → Dir → SignalDrains R W → Type 0
  AnswersSignalDrains o d (signal_drains.Signalled s) =
      SameMarks (drains_place o) (seat_place s)
      × ((e : Dir) → drains_owed o e ≡ bit (is_same d e))
      × Did (op.Signal d) answer.Signalled (drains_place o) (seat_place s)
  AnswersSignalDrains o d (signal_drains.More n) =
      SameMarks (drains_place o) (drains_place n)
      × ((e : Dir) → drains_owed n e ≡ drains_owed o e - bit (is_same d e))
      × Did (op.Signal d) answer.Signalled (drains_place o) (drains_place n)
  AnswersSignalDrains o d (signal_drains.Full n) = StillDrains o n
  AnswersSignalDrains o d (signal_drains.Lost n) = StillDrains o n

  -- no signal was taken: marks, deeds and what was heard are as before
  abbrev pub StillWaits : {D : Type 0} {way : Ghosts D} → Waiting D R W way → Waiting D R W way
      → Type 0
  StillWaits o n = SameMarks (wait_place o) (wait_place n) × DidNothing (wait_place o) (wait_place n)

  -- a wake changes no mark
  abbrev pub AnswersWake : {D : Type 0} {way : Ghosts D} → Waiting D R W way → Wake D R W way
      → Type 0
  AnswersWake {way} o (wake.Woken s) =
      SameMarks (wait_place o) (seat_place s)
      × Did (op.Wake way.dir) answer.Woken (wait_place o) (seat_place s)
  AnswersWake o (wake.NotYet n) = StillWaits o n
  AnswersWake o (wake.Lost n) = StillWaits o n

-- the closed flag, perhaps the drain flag, and nothing else
abbrev pub IsOnlyClosed : Word → Type 0
IsOnlyClosed w =
    (w.closed ≡ true) × (w.rlock ≡ false) × (w.wlock ≡ false) × (w.refs ≡ 0) × (w.rwait ≡ 0)
    × (w.wwait ≡ 0)

-- what the word shows to the holder of a stake
abbrev pub ShowsStake : Stake → Word → Type 0
ShowsStake stake.Ref w = 0 < w.refs
ShowsStake stake.Read w = (0 < w.refs) × (w.rlock ≡ true)
ShowsStake stake.Write w = (0 < w.refs) × (w.wlock ≡ true)
ShowsStake (stake.Closing r v) w = 0 < w.refs
ShowsStake stake.Last w = IsOnlyClosed w
ShowsStake _ w = Unit {0}

-- what a look shows to a seat, and what the seat then has seen
pub record Looks {R W : Type 0} (p q : Place R W) (w : Word) : Type 0 where
  pub shown : Showed w q
  -- what all seats did at that moment goes on from what this seat had heard, and replays to the word
  pub heard : Heard w p q
  pub same_deeds : SameDeeds p q
  pub is_word : IsWord w
  pub same_word : word_of q ≡ word_of p
  pub sees_flag : saw_closed q ≡ w.closed
  pub same_done : saw_done q ≡ saw_done p
  pub flag_stays : saw_closed p ≡ true → w.closed ≡ true
  pub sees_drain : saw_draining q ≡ w.drain
  pub drain_stays : saw_draining p ≡ true → w.drain ≡ true
  pub nothing_after_done : saw_done p ≡ true → IsOnlyClosed w
  pub shows_stake : ShowsStake p.me.0.stake w
