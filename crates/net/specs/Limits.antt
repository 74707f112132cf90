-- When calls give up.
use Rattle.std.specs.Prelude.{ℕ, ◌+◌, ◌-◌, ◌^◌, min, Option, Some, None, option_map}
use Rattle.std.specs.Duration.{as_nanos}
use Rattle.std.specs.declared.time.Duration.{Duration}
use Rattle.base_types.specs.declared.direction.Dir.{Dir}
use Rattle.base_types.specs.declared.direction.Dir.TheVariants as dir
use Rattle.deadline_core.specs.declared.deadline.Deadline.{Deadline}
use Rattle.deadline_core.specs.declared.deadline.Deadline.TheVariants as deadline
use Rattle.net.specs.declared.limits.Limits.{Limits}
use Rattle.net.specs.declared.limits.Times.{Times}

-- the last moment there is
abbrev pub LAST : ℕ
LAST = 2 ^ 64 - 1

-- the moment that is so long after another, in nanoseconds; with no time it never comes
abbrev pub moment_of : ℕ → Option Duration → Deadline
moment_of now (Some time) = deadline.At (min (now + min (as_nanos time) LAST) LAST)
moment_of now None = deadline.Never

-- the one that comes first
abbrev pub earlier_of : Deadline → Deadline → Deadline
earlier_of (deadline.At first) (deadline.At second) = deadline.At (min first second)
earlier_of deadline.Never other = other
earlier_of one deadline.Never = one

-- the times of one direction
abbrev pub times_in : Limits → Dir → Times
times_in limits dir.Read = limits.read
times_in limits dir.Write = limits.write

-- when a call of this direction gives up: at the end of its own time, or at the moment for all calls,
-- whichever comes first
abbrev pub until_of : Limits → Dir → Deadline
until_of limits dir = earlier_of (times_in limits dir).ends limits.until

-- calls of a direction have this time, and one that begins now has all of it
abbrev pub times_from : ℕ → Option Duration → Times
times_from now time = record { each = time; ends = moment_of now time }

-- the limits with this time for each call of a direction, counted from now for the one under way
abbrev pub with_time_of : Limits → Dir → Option Duration → ℕ → Limits
with_time_of limits dir.Read time now =
    record { read = times_from now time; write = limits.write; until = limits.until }
with_time_of limits dir.Write time now =
    record { read = limits.read; write = times_from now time; until = limits.until }

-- the limits with the moment for all calls so long after now
abbrev pub with_until_of : Limits → Option Duration → ℕ → Limits
with_until_of limits time now =
    record { read = limits.read; write = limits.write; until = moment_of now time }

-- the limits once a call of this direction begins that has a time, all of which is its own; none where
-- calls of this direction have no time
abbrev pub begun_from : Limits → Dir → ℕ → Option Limits
begun_from limits dir now =
    option_map (λ time. with_time_of limits dir (Some time) now) (times_in limits dir).each
