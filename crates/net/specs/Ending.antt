-- How far a service has come to its end.
use Rattle.std.specs.Prelude.{ℕ, ◌&&◌, ◌||◌, not, nat_eq, Bool, true, false}
use Rattle.deadline_core.specs.declared.deadline.Deadline.{Deadline}
use Rattle.deadline_core.specs.declared.deadline.Deadline.TheVariants as deadline
use Rattle.net.specs.Limits.{earlier_of}
use Rattle.net.specs.Task.{has_passed}
use Rattle.net.specs.declared.phase.Phase.{Phase}

-- the moment comes
abbrev pub comes : Deadline → Bool
comes (deadline.At at) = true
comes deadline.Never = false

-- an end was asked for
abbrev pub is_ending : Phase → Bool
is_ending phase = comes phase.until

-- the phase once an end by this moment is asked for too
abbrev pub with_end : Phase → Deadline → Phase
with_end phase until =
    record { until = earlier_of phase.until until; accepts = phase.accepts }

-- a loop with so many tasks has done its part: the time of its tasks is over, or an end was asked for, no
-- connection comes any more, and its tasks have ended
abbrev pub has_ended : Phase → ℕ → ℕ → Bool
has_ended phase now tasks =
    has_passed phase.until now || (is_ending phase && (not phase.accepts && nat_eq tasks 0))
