-- What the rule of a running word comes to, in the words of the subject.
use Rattle.std.specs.Prelude.{◌≡◌, ◌==◌, ◌/◌, ◌%◌, ◌^◌}
use Rattle.lockword.specs.Words.{ℕ, List, slice_index, get_elem?, some, Word, Event}
use Rattle.lockword.specs.Words.{bit, state_after, empty}
use Rattle.lockword_core.specs.OperationCounts.{NoneRefused}
use Rattle.lockword_core.specs.Laws.{CountsStakes}
use Rattle.lockword_core.specs.LockState.{Census, Counted, count}
use Rattle.lockword.specs.declared.shared_rule.TheConstants.{READ_SIGNALS, WRITE_SIGNALS, DONE}
use Rattle.lockword.specs.LocalView.{stakes_of}
use Rattle.lockword.specs.History.{Matches, Interleaves}
use Rattle.lockword.specs.Marks.{Place}
use Rattle.lockword.specs.Moment.{Moment}
use Rattle.lockword.specs.Headline.{Headline, state_number}
use Rattle.lockword.specs.declared.local_view.LocalView.{LocalView}

-- the seven fields of a number
pub record HasFields (n : ℕ) (w : Word) : Type 0 where
  pub closed : bit w.closed ≡ n % 2
  pub rlock : bit w.rlock ≡ n / 2 % 2
  pub wlock : bit w.wlock ≡ n / 4 % 2
  pub refs : w.refs ≡ n / 8 % 2 ^ 24
  pub rwait : w.rwait ≡ n / 2 ^ 27 % 2 ^ 18
  pub wwait : w.wwait ≡ n / 2 ^ 45 % 2 ^ 18
  pub drain : bit w.drain ≡ n / 2 ^ 63

-- at some moment the headline held, a seat had this view, and the state word had these fields
pub record Stood (R W : Type 0) (w : Word) (v : LocalView) : Type 0 where
  pub moment : Moment R W
  pub headline : Headline moment
  pub seat : ℕ
  pub own : get_elem? moment.views seat ≡ some v
  pub fields : HasFields (state_number moment) w

-- the same of a seat as it stands
abbrev pub StoodBy : {R W : Type 0} → Place R W → Word → Type 0
StoodBy {R} {W} p w = Stood R W w p.me.0

-- one list of operations, in which each seat's own are those that it made and of which none is
-- refused, leads to the words and the stakes of this moment, and the fields are the flags and the
-- counts that it leaves
pub record ComesOfDeeds {R W : Type 0} (s : Moment R W) (fields : Word) : Type 0 where
  pub history : List Event
  pub interleaves : Interleaves history s.views
  pub none_refused : NoneRefused history
  pub matches : Matches (state_after empty history) s.words s.views
  pub counts : CountsStakes fields (state_after empty history)

module _ {R W : Type 0} where
  -- the state of this moment, by its seats: their stakes, the flags, the signals and the mark
  abbrev pub seats_census : Moment R W → Word → Census
  seats_census s fields =
      record {
        stakes = stakes_of s.views;
        closed = fields.closed;
        draining = fields.drain;
        signals = record {
          read = slice_index s.words READ_SIGNALS;
          write = slice_index s.words WRITE_SIGNALS;
        };
        destroyed = slice_index s.words DONE == 1;
      }

  -- a count over the stakes of all seats
  abbrev pub over_seats : Counted → Moment R W → ℕ
  over_seats what s = count what (stakes_of s.views)
