-- What happened to the calls of one owner, newest first, and when each of them gives up.
use Rattle.std.specs.Prelude.{◌≡◌, ◌≤◌, ℕ, Bool, true, false, List, Option, Some, None, find}
use Rattle.std.specs.Prelude.{if◌then◌else◌}
use Rattle.base_types.specs.declared.direction.Dir.{Dir}
use Rattle.base_types.specs.declared.direction.Dir.TheVariants.{Read, Write}
use Rattle.deadline_core.specs.declared.deadline.Deadline.{Deadline}
use Rattle.deadline_core.specs.declared.deadline.Deadline.TheVariants.{Never, At}
use Rattle.deadline_core.specs.declared.call_deadlines.CallDeadlines.{CallDeadlines}
use Rattle.deadline_core.specs.declared.call_deadlines.CallTime.{CallTime}
use Rattle.deadline_core.specs.PollHistory.{same_dir}

-- a call begins, which gives up at a moment of its own or as it was said before; a call has its
-- answer; or somebody else says when the calls of a direction give up
pub data CallEvent : Type 0 where
  Begun : (dir : Dir) (own : Option ℕ) → CallEvent
  Answered : (dir : Dir) → CallEvent
  Told : (dir : Dir) (deadline : Deadline) → CallEvent

-- the event says when the calls of this direction give up
abbrev pub limits : Dir → CallEvent → Bool
limits dir (Begun of (Some at)) = same_dir of dir
limits dir (Begun of None) = false
limits dir (Answered of) = false
limits dir (Told of deadline) = same_dir of dir

-- a call of this direction begins, or has its answer
abbrev pub moves_call : Dir → CallEvent → Bool
moves_call dir (Begun of own) = same_dir of dir
moves_call dir (Answered of) = same_dir of dir
moves_call dir (Told of deadline) = false

-- the deadline that an event says
abbrev pub limit_in : Option CallEvent → Deadline
limit_in (Some (Begun dir (Some at))) = At at
limit_in (Some (Told dir deadline)) = deadline
limit_in _ = Never

-- a call begins
abbrev pub is_begun : Option CallEvent → Bool
is_begun (Some (Begun dir own)) = true
is_begun _ = false

-- when the calls of a direction give up: as it was said last
abbrev pub limit_of : Dir → List CallEvent → Deadline
limit_of dir events = limit_in (find (limits dir) events)

-- a call of this direction is under way: the last that moved began
abbrev pub is_under_way : Dir → List CallEvent → Bool
is_under_way dir events = is_begun (find (moves_call dir) events)

-- the moment of a deadline
abbrev pub moment_of : Deadline → Option ℕ
moment_of Never = None
moment_of (At at) = Some at

-- the moment at which the call of a direction gives up that is under way
abbrev pub awaited : Dir → List CallEvent → Option ℕ
awaited dir events = if is_under_way dir events then moment_of (limit_of dir events) else None

-- the earliest moment at which a call gives up that is under way
abbrev pub IsNext : List CallEvent → Option ℕ → Type 0
IsNext events None = (dir : Dir) → awaited dir events ≡ None
IsNext events (Some at) = ((dir : Dir) × (awaited dir events ≡ Some at))
    × ((dir : Dir) (other : ℕ) → awaited dir events ≡ Some other → at ≤ other)

-- what is kept of a direction is what the events say of it
pub record TimeStandsFor (time : CallTime) (dir : Dir) (events : List CallEvent) : Type 0 where
  pub deadline : time.deadline ≡ limit_of dir events
  pub is_under_way : time.is_under_way ≡ is_under_way dir events

-- the deadlines stand for these events
pub record HasHistory (deadlines : CallDeadlines) (events : List CallEvent) : Type 0 where
  pub read : TimeStandsFor deadlines.read Read events
  pub write : TimeStandsFor deadlines.write Write events
