-- When a task of a server goes on, and what its loop does with it after each step.
use Rattle.std.specs.Prelude.{ℕ, ◌&&◌, ◌||◌, not, nat_le, Bool, true, false, Option, Some, None}
use Rattle.std.specs.Prelude.{if◌then◌else◌}
use Rattle.std.specs.declared.time.Duration.{Duration}
use Rattle.deadline_core.specs.declared.deadline.Deadline.{Deadline}
use Rattle.deadline_core.specs.declared.deadline.Deadline.TheVariants as deadline
use Rattle.readiness.specs.declared.agenda.Why.{Why}
use Rattle.readiness.specs.declared.agenda.Why.TheVariants as why
use Rattle.readiness.specs.declared.loop_token.Side.TheVariants as side
use Rattle.readiness.specs.declared.tasks.Turn.{Turn}
use Rattle.readiness.specs.declared.tasks.Turn.TheVariants as turn
use Rattle.net.specs.declared.task.Blocked.{Blocked}
use Rattle.net.specs.declared.task.Cause.{Cause}
use Rattle.net.specs.declared.task.Cause.TheVariants.{Ready, Ending, TimeOver}
use Rattle.net.specs.declared.task.Next.{Next}
use Rattle.net.specs.declared.task.Next.TheVariants as next
use Rattle.net.specs.declared.task.Waits.{Waits}
use Rattle.net.specs.declared.task.Waits.TheVariants as wait

-- it waits for a read
abbrev pub reads_of : Next → Bool
reads_of (next.Read waits) = true
reads_of (next.ReadOrWrite waits) = true
reads_of _ = false

-- it waits for a write
abbrev pub writes_of : Next → Bool
writes_of (next.Write waits) = true
writes_of (next.ReadOrWrite waits) = true
writes_of _ = false

-- for how long it waits
abbrev pub wait_of : Next → Waits
wait_of (next.Read waits) = waits
wait_of (next.Write waits) = waits
wait_of (next.ReadOrWrite waits) = waits
wait_of (next.After time) = wait.AtMost time
wait_of next.Again = wait.Forever
wait_of next.Over = wait.NoLonger

-- how long it waits at most, where that is known
abbrev pub time_in : Waits → Option Duration
time_in (wait.AtMost time) = Some time
time_in _ = None

-- how long a task waits at most that said this
abbrev pub time_of : Next → Option Duration
time_of said = time_in (wait_of said)

-- how long a task waits that has nothing under way
abbrev pub idle_of : Cause → Duration → Waits
idle_of Ready time = wait.AtMost time
idle_of Ending time = wait.NoLonger
idle_of TimeOver time = wait.NoLonger

-- how long a task waits that has something under way
abbrev pub within_of : Cause → Duration → Waits
within_of TimeOver time = wait.NoLonger
within_of _ time = wait.AtMost time

-- it waits for what isn't known to block
abbrev pub may_go_on : Next → Blocked → Bool
may_go_on said blocked =
    (reads_of said && not blocked.read) || (writes_of said && not blocked.write)

-- what its loop does with a task that waits so, and goes on by this if it doesn't wait
abbrev pub turn_in : Waits → Turn → Turn
turn_in wait.NoLonger going = turn.Over
turn_in _ going = going

-- what its loop does with a task that said this
abbrev pub turn_after : Next → Blocked → Turn
turn_after next.Again blocked = turn.Again
turn_after said blocked =
    turn_in (wait_of said) (if may_go_on said blocked then turn.Again else turn.Waits)

-- this moment has come
abbrev pub has_passed : Deadline → ℕ → Bool
has_passed (deadline.At at) now = nat_le at now
has_passed deadline.Never now = false

-- why a task goes on whose time isn't over
abbrev pub ready_in : Bool → Cause
ready_in ending = if ending then Ending else Ready

-- why a task goes on that said this, with its time over at that moment, for what its loop tells: for a
-- direction that it waits for, its connection's deadline, a name, or its turn, which it hears apart where its
-- service is ending; and for its own time once that is over
abbrev pub cause_of : Next → Deadline → Why → Bool → Option Cause
cause_of said until (why.Ready any read write stop_ahead) ending =
    if (reads_of said && read) || (writes_of said && write) then Some (ready_in ending) else None
cause_of said until (why.Due side.Second dir now) ending =
    if has_passed until now then Some TimeOver else None
cause_of said until (why.Due side.First dir now) ending = Some (ready_in ending)
cause_of said until (why.Time now) ending = None
cause_of said until why.Named ending = Some (ready_in ending)
cause_of said until why.Again ending = Some (ready_in ending)

-- what is known of a connection's directions after its loop told this: what may go on doesn't block
abbrev pub unblocked : Blocked → Why → Blocked
unblocked blocked (why.Ready any read write stop_ahead) =
    record { read = blocked.read && not read; write = blocked.write && not write }
unblocked blocked _ = blocked
