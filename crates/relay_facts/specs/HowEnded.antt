-- How a connection ended, by the end of the way that ended it.
use Rattle.std.specs.Prelude.{Bool, true, false, Option, Some, None}
use Rattle.std.specs.Option.{option_and_then, option_map_or}
use Rattle.base_types.specs.declared.direction.Dir.{Dir}
use Rattle.base_types.specs.declared.direction.Dir.TheVariants as dir
use Rattle.rwloops.specs.declared.fault.Fault.{Fault}
use Rattle.rwloops.specs.declared.fault.Fault.TheVariants as fault
use Rattle.rwloops.specs.declared.outcome.DevKind.{DevKind}
use Rattle.rwloops.specs.declared.outcome.DevKind.TheVariants as kind
use Rattle.relay_core.specs.declared.copying.Ended.{Ended}
use Rattle.relay_core.specs.declared.copying.Ended.TheVariants as way
use Rattle.relay_core.specs.declared.ways.Way.{Way}
use Rattle.relay_core.specs.declared.ways.Way.TheVariants.{Up, Down}
use Rattle.relay_log.specs.declared.ended.Cause.{Cause}
use Rattle.relay_log.specs.declared.ended.Cause.TheVariants as cause
use Rattle.relay_log.specs.declared.ended.Ended.{Ended as How}
use Rattle.relay_log.specs.declared.ended.Ended.TheVariants as how
use Rattle.relay_log.specs.declared.ended.Reason.{Reason}
use Rattle.relay_log.specs.declared.ended.Reason.TheVariants as reason

-- what a device said
abbrev pub reason_of : DevKind → Reason
reason_of kind.Reset = reason.Reset
reason_of kind.Aborted = reason.Aborted
reason_of kind.BrokenPipe = reason.BrokenPipe
reason_of kind.Refused = reason.Refused
reason_of kind.Other = reason.Other

-- what a fault of an accept says
abbrev pub reason_of_fault : Fault → Reason
reason_of_fault (fault.Device kind) = reason_of kind
reason_of_fault other = reason.Other

-- a call in this direction failed so
abbrev pub failed : Dir → Reason → How
failed dir.Read why = how.Read why
failed dir.Write why = how.Write why

-- a device's fault: whoever refuses the connection is no target
abbrev pub how_of_device : Dir → DevKind → How
how_of_device d kind.Refused = how.NoTarget cause.Refused
how_of_device d other = failed d (reason_of other)

-- closed and drained are what a session asked for; a deadline that passed was its idle time's, or
-- one of a session
abbrev pub how_of_fault : Dir → Fault → How
how_of_fault d fault.Closed = how.Closed
how_of_fault d fault.Draining = how.Drained
how_of_fault d fault.DeadlineExceeded = how.Idle
how_of_fault d (fault.Device kind) = how_of_device d kind
how_of_fault d other = failed d reason.Other

-- the end of a way, as the end of its connection
abbrev pub how_of : Ended → How
how_of way.Eof = how.Eof
how_of (way.ReadFault fault) = how_of_fault dir.Read fault
how_of (way.WriteFault failure) = how_of_fault dir.Write failure.fault
how_of (way.CloseFault fault) = how_of_fault dir.Write fault
how_of (way.BookFull untold) = how.Write reason.Other

-- the fault by which a way ended, if it ended by one of a call
abbrev pub fault_in : Ended → Option Fault
fault_in way.Eof = None
fault_in (way.ReadFault fault) = Some fault
fault_in (way.WriteFault failure) = Some failure.fault
fault_in (way.CloseFault fault) = Some fault
fault_in (way.BookFull untold) = None

-- it is that of a call on the target
abbrev pub is_of_target : Way → Ended → Bool
is_of_target Up (way.WriteFault failure) = true
is_of_target Up (way.CloseFault fault) = true
is_of_target Down (way.ReadFault fault) = true
is_of_target other ended = false

-- why a target that isn't connected yet isn't reached, where a call failed so: whoever refuses is no
-- target; what has no name of its own, of a call on the target, says that there is no way to it; and
-- a deadline of either side leaves it no more time
abbrev pub cause_of : Bool → Fault → Option Cause
cause_of of_target (fault.Device kind.Refused) = Some cause.Refused
cause_of true (fault.Device kind.Other) = Some cause.Unreachable
cause_of of_target fault.DeadlineExceeded = Some cause.Timeout
cause_of of_target other = None

-- the end of a way of a connection whose target isn't connected yet, as the end of that
abbrev pub how_unreached : Way → Ended → How
how_unreached way ended =
    option_map_or (λ why. how.NoTarget why)
    (option_and_then (cause_of (is_of_target way ended)) (fault_in ended)) (how_of ended)
