-- Why a connection isn't set up, whose target may be there.
use Rattle.std.specs.Prelude.{ℕ, Option, Some, None}
use Rattle.readiness.specs.declared.holding.HoldFault.{HoldFault}
use Rattle.readiness.specs.declared.holding.HoldFault.TheVariants as fault
use Rattle.readiness.specs.declared.tasks.NoPlace.{NoPlace}
use Rattle.readiness.specs.declared.tasks.NoPlace.TheVariants as why
use Rattle.relay_log.specs.declared.ended.Ended.{Ended as How}
use Rattle.relay_log.specs.declared.ended.Ended.TheVariants as how
use Rattle.relay_facts.specs.Seats.{how_unseated}
use Rattle.relay_conn.specs.declared.refused.Refused.{Refused}
use Rattle.relay_conn.specs.declared.refused.Refused.TheVariants.{Places, Memory, Poller, Header, Source, Target}
use Rattle.relay_conn.specs.declared.refused.Unheard.{Unheard}
use Rattle.relay_conn.specs.declared.refused.Unheard.TheVariants as unheard

-- what refused a descriptor: a device's fault is the poller's, which can't be told of the socket
abbrev pub refused_by : HoldFault → Refused
refused_by (fault.Device kind) = Poller
refused_by other = Memory

-- what refused a place
abbrev pub refused_for : NoPlace → Refused
refused_for why.OutOfMemory = Memory
refused_for why.Full = Places
refused_for why.SerialsSpent = Places

-- how it is told that a client said nothing, or no header
abbrev pub how_unheard : Unheard → How
how_unheard unheard.Missing = how.NoHeader
how_unheard unheard.Bad = how.BadHeader
how_unheard unheard.Memory = how.NoMemory

-- how that is told
abbrev pub how_refused : Refused → How
how_refused Places = how.Full
how_refused Memory = how.NoMemory
how_refused Poller = how.Descriptors
how_refused (Header why) = how_unheard why
how_refused (Source why) = how_unseated why
how_refused (Target last) = how.NoTarget last.cause

-- the place of the target that was dialled last
abbrev pub place_refused : Refused → Option ℕ
place_refused (Target last) = Some last.place
place_refused other = None
