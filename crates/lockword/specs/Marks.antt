-- A seat's word and its marks, before and after a call.
use Rattle.std.specs.Prelude.{◌≡◌, ◌⊎◌}
use Rattle.lockword.specs.Words.{List, Bool, true, false, Dir, Event, Op, Answer, After, Word}
use Rattle.lockword_core.specs.Word.{packed}
use Rattle.atomic_table.specs.declared.shared.Seat as table
use Rattle.atomic_table.specs.Seated.{TableId}
use Rattle.lockword_core.specs.declared.transition.Kind.{Kind}
use Rattle.lockword_core.specs.declared.transition.Kind.TheVariants as kind
use Rattle.lockword_core.specs.declared.transition.After.TheVariants as after
use Rattle.lockword_core.specs.declared.word.TheConstants.{MAX_REFERENCES, MAX_WAITERS}
use Rattle.lockword_core.specs.FieldStep.{lock_of, waiters_of}
use Rattle.lockword_core.specs.WordStep.{op_of, gained}
use Rattle.lockword.specs.History.{IsMade, GoesOn, Hears}
use Rattle.lockword.specs.Moment.{IsShown}
use Rattle.lockword.specs.declared.local_view.Marks.{Marks}
use Rattle.lockword.specs.declared.local_view.LocalView.{LocalView}
use Rattle.lockword.specs.declared.shared_rule.Half.{Half}

-- which word it is
abbrev pub WordId : Type 0
WordId = TableId

-- a seat of a word, with its local view
abbrev pub Place : Type 0 → Type 0 → Type 0
Place R W = table.Seat (Half R W) LocalView

module _ {R W : Type 0} where
  -- the word that a seat belongs to
  abbrev pub word_of : Place R W → WordId
  word_of p = p.table_id

  -- what the seat has seen
  abbrev pub marks_of : Place R W → Marks
  marks_of p = p.me.0.saw

  -- whether the seat saw the closed flag
  abbrev pub saw_closed : Place R W → Bool
  saw_closed p = (marks_of p).closed

  -- whether the seat saw the drain flag
  abbrev pub saw_draining : Place R W → Bool
  saw_draining p = (marks_of p).draining

  -- whether the seat saw the mark
  abbrev pub saw_done : Place R W → Bool
  saw_done p = (marks_of p).done

  -- the operations that the seat has made, in order
  abbrev pub deeds : Place R W → List Op
  deeds p = p.me.0.did

  -- the same word and the same marks
  abbrev pub SameMarks : Place R W → Place R W → Type 0
  SameMarks p q = (word_of q ≡ word_of p) × (marks_of q ≡ marks_of p)

  -- saw draining is not taken back
  abbrev pub KeepsDraining : Place R W → Place R W → Type 0
  KeepsDraining p q = saw_draining p ≡ true → saw_draining q ≡ true

  -- the same word, and neither saw closed nor saw draining is taken back
  abbrev pub Later : Place R W → Place R W → Type 0
  Later p q =
      (word_of q ≡ word_of p) × (saw_closed p ≡ true → saw_closed q ≡ true)
      × (saw_done q ≡ saw_done p) × KeepsDraining p q

  -- the same word, now the seat has seen it closed, and saw draining is not taken back
  abbrev pub NowClosed : Place R W → Place R W → Type 0
  NowClosed p q =
      (word_of q ≡ word_of p) × (saw_closed q ≡ true) × (saw_done q ≡ saw_done p)
      × KeepsDraining p q

  -- the same word, now the seat has seen it draining, and the other marks are as before
  abbrev pub NowDraining : Place R W → Place R W → Type 0
  NowDraining p q =
      (word_of q ≡ word_of p) × (saw_closed q ≡ saw_closed p) × (saw_done q ≡ saw_done p)
      × (saw_draining q ≡ true)

  -- the same word and the same marks, but that the seat may now have seen it draining
  abbrev pub SameButDraining : Place R W → Place R W → Type 0
  SameButDraining p q =
      (word_of q ≡ word_of p) × (saw_closed q ≡ saw_closed p) × (saw_done q ≡ saw_done p)
      × KeepsDraining p q

  -- what all seats had done when the seat made its last operation or look, in the order in which
  -- they did it
  abbrev pub heard_by : Place R W → List Event
  heard_by p = p.me.0.heard

  -- after some list of operations by the word's seats, none of which was refused, this seat made
  -- this operation, was answered so, and has what it has now
  abbrev pub Did : Op → Answer → Place R W → Place R W → Type 0
  Did o a p q = IsMade o a p.me.0 q.me.0

  -- the seat made no operation
  abbrev pub SameDeeds : Place R W → Place R W → Type 0
  SameDeeds p q = deeds q ≡ deeds p

  -- the seat has heard nothing since
  abbrev pub SameHeard : Place R W → Place R W → Type 0
  SameHeard p q = heard_by q ≡ heard_by p

  -- what the seat has heard goes on from what it had heard
  abbrev pub HeardOn : Place R W → Place R W → Type 0
  HeardOn p q = GoesOn (heard_by p) (heard_by q)

  -- the seat made no operation, and has heard nothing since
  abbrev pub DidNothing : Place R W → Place R W → Type 0
  DidNothing p q = SameDeeds p q × SameHeard p q

  -- the seat looked and made no operation: what it has heard goes on from what it had heard
  abbrev pub OnlyLooked : Place R W → Place R W → Type 0
  OnlyLooked p q = SameDeeds p q × HeardOn p q

  -- what all seats did at some moment goes on from what the seat had heard, is what it has heard
  -- since, was refused nowhere, and replays to this word
  abbrev pub Heard : Word → Place R W → Place R W → Type 0
  Heard w p q = Hears p.me.0 (heard_by q) (packed w) q.me.0

  -- these were the seven fields at some moment, at which the rule held and this seat had this view
  abbrev pub Showed : Word → Place R W → Type 0
  Showed w q = IsShown R W w q.me.0

  -- whether a `Last` has taken the halves
  abbrev pub HasTaken : Place R W → Type 0
  HasTaken p = p.me.0.took ≡ true

  -- a `Last` has not yet taken the halves
  abbrev pub HasNotTaken : Place R W → Type 0
  HasNotTaken p = p.me.0.took ≡ false

  -- the seat has not seen the word closed
  abbrev pub IsOpen : Place R W → Type 0
  IsOpen p = saw_closed p ≡ false

  -- the seat has not seen the word draining
  abbrev pub IsUndrained : Place R W → Type 0
  IsUndrained p = saw_draining p ≡ false

-- nobody has the lock and the references are at their limit, or somebody has it and its waiters are
abbrev pub IsFullWay : Dir → Word → Type 0
IsFullWay d w =
    ((lock_of d w ≡ false) × (w.refs ≡ MAX_REFERENCES))
    ⊎ ((lock_of d w ≡ true) × (waiters_of d w ≡ MAX_WAITERS))

-- a reference, or the lock of the direction, is at its limit
abbrev pub IsFull : Kind → Word → Type 0
IsFull kind.Incref w = w.refs ≡ MAX_REFERENCES
IsFull kind.Close w = w.refs ≡ MAX_REFERENCES
IsFull (kind.Lock d) w = IsFullWay d w
IsFull _ w = ⊥

module _ {R W : Type 0} where
  -- the marks once a step of this kind came to this: what takes was found open and not drained, a
  -- close was found open, and the last return was found closed
  abbrev pub Marked : Kind → After → Place R W → Place R W → Type 0
  Marked kind.Incref after.Held p q = SameMarks p q × IsOpen p × IsUndrained p
  Marked kind.Decref after.Kept p q = Later p q
  Marked kind.Close (after.Closing r w) p q = NowClosed p q × IsOpen p
  Marked kind.Drain (after.Drained r w) p q = NowDraining p q × IsOpen p × IsUndrained p
  Marked (kind.Lock d) after.Held p q = SameMarks p q × IsOpen p × IsUndrained p
  Marked (kind.Lock d) after.Queued p q = SameMarks p q × IsOpen p × IsUndrained p
  Marked (kind.Unlock d) after.Owes p q = SameMarks p q × IsOpen p × IsUndrained p
  Marked (kind.Unlock d) after.Kept p q = Later p q
  Marked kind.Decref after.Last p q = NowClosed p q × HasNotTaken q
  Marked (kind.Unlock d) after.Last p q = NowClosed p q × HasNotTaken q
  Marked _ _ p q = ⊥

  -- the marks once the exchange of a step was lost
  abbrev pub LostMarks : Kind → Place R W → Place R W → Type 0
  LostMarks kind.Decref p q = Later p q
  LostMarks (kind.Unlock d) p q = Later p q
  LostMarks kind.Close p q = SameButDraining p q × IsOpen p
  LostMarks _ p q = SameMarks p q × IsOpen p × IsUndrained p

  -- the marks once a step was refused by this word, which is not closed and is at a limit; it has
  -- the drain flag at most where a close was refused, and the seat has then seen it
  abbrev pub FullMarks : Kind → Place R W → Place R W → Word → Type 0
  FullMarks kind.Close p q w =
      SameButDraining p q × IsOpen p × (saw_draining q ≡ w.drain) × (w.closed ≡ false)
      × IsFull kind.Close w
  FullMarks k p q w =
      SameMarks p q × IsOpen p × IsUndrained p × (w.drain ≡ false) × (w.closed ≡ false)
      × IsFull k w

  -- a step of this kind was made and came to this: the seat's marks, and what it did
  abbrev pub Made : Kind → After → Place R W → Place R W → Type 0
  Made k a p q = Marked k a p q × Did (op_of k) (gained k a).0 p q

  -- the exchange of a step was lost, and the seat did nothing but look
  abbrev pub LostStep : Kind → Place R W → Place R W → Type 0
  LostStep k p q = LostMarks k p q × OnlyLooked p q

  -- a step found the word closed, and the seat did nothing but look
  abbrev pub FoundClosed : Place R W → Place R W → Type 0
  FoundClosed p q = NowClosed p q × OnlyLooked p q

  -- a step found the word draining and not closed, and the seat did nothing but look
  abbrev pub FoundDraining : Place R W → Place R W → Type 0
  FoundDraining p q = NowDraining p q × IsOpen p × OnlyLooked p q

  -- a step was refused by this word, which was the word at some moment that the seat has heard of,
  -- and the seat did nothing but look
  abbrev pub FoundFull : Kind → Place R W → Place R W → Word → Type 0
  FoundFull k p q w = FullMarks k p q w × Showed w q × Heard w p q × SameDeeds p q
