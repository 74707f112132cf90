-- What holds of the words, the slots and all seats between any two atomic steps.
use Rattle.std.specs.Prelude.{◌≡◌, ◌+◌, length}
use Rattle.lockword.specs.Words.{ℕ, true, List, slice_index, some, get_elem?, Dir, Event, bit}
use Rattle.lockword.specs.Words.{empty, state_after}
use Rattle.atomic_table.specs.Table.{State}
use Rattle.lockword_core.specs.Signals.{signals_in}
use Rattle.lockword_core.specs.LockState.{Census, locks, number, encoded}
use Rattle.lockword_core.specs.LockInvariant.{IsConsistentCensus}
use Rattle.lockword_core.specs.OperationCounts.{NoneRefused}
use Rattle.lockword.specs.declared.local_view.LocalView.{LocalView}
use Rattle.lockword.specs.declared.shared_rule.Half.{Half}
use Rattle.lockword.specs.declared.shared_rule.TheConstants.{STATE, DONE}
use Rattle.lockword.specs.Directions.{semaphore, slot_of, half_home}
use Rattle.lockword.specs.LocalView.{stakes_of, takers}
use Rattle.lockword.specs.History.{Matches, Interleaves, IsHeard}

-- what a seat saw is so
pub record SawRightly (c : Census) (v : LocalView) : Type 0 where
  pub closed : v.saw.closed ≡ true → c.closed ≡ true
  pub draining : v.saw.draining ≡ true → c.draining ≡ true
  pub done : v.saw.done ≡ true → c.destroyed ≡ true

module _ {R W : Type 0} where
  -- words, seats and halves stand for a consistent abstract state
  pub record Represents (s : State (Half R W) LocalView) : Type 0 where
    pub four_words : length s.words ≡ 4
    pub two_slots : length s.homes ≡ 2
    -- the abstract state, whose stakes are those of all seats
    pub census : Census
    pub consistent : IsConsistentCensus census
    pub stakes : census.stakes ≡ stakes_of s.views
    pub state_word : slice_index s.words STATE ≡ encoded census
    pub semaphores : (d : Dir) → slice_index s.words (semaphore d) ≡ signals_in d census.signals
    pub done_word : slice_index s.words DONE ≡ bit census.destroyed
    -- each half is in one place: at home, with the holder of its lock, with the `Last` that took
    -- it, or given away for good
    pub halves : (d : Dir)
        → half_home d (get_elem? s.homes (slot_of d)) + number (locks d) census + takers s.views
        + bit census.destroyed ≡ 1
    -- whoever saw the closed flag, the drain flag or the done word set, saw what is so
    pub seen : (i : ℕ) (v : LocalView) → get_elem? s.views i ≡ some v → SawRightly census v

  -- the rule of the table: besides, what all seats have ever done leads here from the empty state,
  -- in some order that keeps each seat's own
  pub record IsReached (s : State (Half R W) LocalView) : Type 0 where
    pub represents : Represents s
    pub history : List Event
    pub interleaves : Interleaves history s.views
    pub none_refused : NoneRefused history
    pub leads : Matches (state_after empty history) s.words s.views
    pub heard : IsHeard history s.views
