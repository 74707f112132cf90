-- The operations that stand behind a running word: what all seats did so far, in one order.
use Rattle.std.specs.Prelude.{◌≡◌, [], ◌∷◌, ◌++◌, is_some, slice_index_or}
use Rattle.lockword.specs.Words.{ℕ, true, List, slice_index, some, get_elem?, Dir, Event, Op, Answer}
use Rattle.lockword.specs.Words.{bit, empty, state_after}
use Rattle.lockword_core.specs.declared.stake.Stake.TheVariants as stake
use Rattle.lockword_core.specs.Signals.{signals_in}
use Rattle.lockword_core.specs.LockState.{LockState, census, stake_of, encoded}
use Rattle.lockword_core.specs.Transition.{transition}
use Rattle.lockword_core.specs.OperationCounts.{NoneRefused, operations_of}
use Rattle.lockword.specs.declared.local_view.LocalView.{LocalView}
use Rattle.lockword.specs.declared.shared_rule.TheConstants.{STATE, DONE}
use Rattle.lockword.specs.Directions.{semaphore}
use Rattle.lockword.specs.LocalView.{stakes_of, deeds_of}

-- the words are those of this state, and each seat has what the holder of its number has
pub record Matches (state : LockState) (words : List ℕ) (views : List LocalView) : Type 0 where
  pub stakes : (seat : ℕ) → slice_index_or (stakes_of views) seat stake.Free ≡ stake_of state seat
  pub state_word : slice_index words STATE ≡ encoded (census state)
  pub semaphores : (d : Dir) → slice_index words (semaphore d) ≡ signals_in d state.signals
  pub done_word : slice_index words DONE ≡ bit (is_some state.destroyed_by)

-- the list is one interleaving of what all seats did: of each seat it has what that seat did, in
-- that seat's order
pub record Interleaves (history : List Event) (views : List LocalView) : Type 0 where
  pub deeds : (seat : ℕ) → slice_index_or (deeds_of views) seat [] ≡ operations_of seat history

-- the later list goes on from the earlier
pub record GoesOn (early late : List Event) : Type 0 where
  pub more : List Event
  pub whole : late ≡ early ++ more

-- what each seat has heard is a beginning of the list
pub record IsHeard (history : List Event) (views : List LocalView) : Type 0 where
  pub each : (seat : ℕ) (v : LocalView) → get_elem? views seat ≡ some v → GoesOn v.heard history

-- after this list the seat of this number has this view
pub record IsView (history : List Event) (seat : ℕ) (v : LocalView) : Type 0 where
  pub did : v.did ≡ operations_of seat history
  pub stake : stake_of (state_after empty history) seat ≡ v.stake
  pub saw_closed : v.saw.closed ≡ true → (state_after empty history).closed ≡ true
  pub saw_draining : v.saw.draining ≡ true → (state_after empty history).draining ≡ true
  pub saw_done : v.saw.done ≡ true → is_some (state_after empty history).destroyed_by ≡ true

-- after some list of operations by the word's seats, none of which was refused, one that has the
-- first view makes this operation, is answered so, and has the stake of the second view
pub record IsMade (op : Op) (answer : Answer) (v w : LocalView) : Type 0 where
  pub history : List Event
  pub none_refused : NoneRefused history
  pub seat : ℕ
  pub own : IsView history seat v
  pub answered : (transition (state_after empty history) seat op).1 ≡ answer
  pub stake : stake_of (transition (state_after empty history) seat op).0 seat ≡ w.stake
  pub did : w.did ≡ v.did ++ op ∷ []
  -- the list goes on from what the seat had heard, and with its own operation is what it has heard
  pub goes_on : GoesOn v.heard history
  pub heard : w.heard ≡ history ++ record { holder = seat; op = op } ∷ []

-- a seat with the first view hears this list, and finds this number: the list goes on from what it
-- had heard, none of it is refused, replayed it gives this number, and after it the seat has the
-- second view
pub record Hears (v : LocalView) (list : List Event) (n : ℕ) (w : LocalView) : Type 0 where
  pub goes_on : GoesOn v.heard list
  pub none_refused : NoneRefused list
  pub leads : encoded (census (state_after empty list)) ≡ n
  pub seat : ℕ
  pub own : IsView list seat w
