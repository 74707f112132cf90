-- How a connection ended.
use Rattle.std.specs.Prelude.{Option, Some, None, option_map}
use Rattle.base_types.specs.declared.direction.Dir.{Dir}
use Rattle.base_types.specs.declared.direction.Dir.TheVariants as dir
use Rattle.relay_core.specs.declared.copying.Ended.{Ended}
use Rattle.relay_core.specs.declared.copying.Ended.TheVariants.{Eof, ReadFault, WriteFault}
use Rattle.relay_core.specs.declared.pair_tasks.PairTasks.{PairTasks}
use Rattle.relay_core.specs.declared.pair_tasks.FlowState.{FlowState}
use Rattle.relay_core.specs.declared.pair_tasks.FlowState.TheVariants.{Over}
use Rattle.relay_core.specs.declared.passing.Step.{Step}
use Rattle.relay_core.specs.declared.passing.Step.TheVariants as step
use Rattle.relay_core.specs.declared.ways.Way.TheVariants.{Down}
use Rattle.rwloops.specs.declared.fault.Fault.{Fault}
use Rattle.rwloops.specs.declared.fault.Fault.TheVariants.{DeadlineExceeded}
use Rattle.relay_log.specs.declared.ended.Ended.{Ended as How}
use Rattle.relay_log.specs.declared.ended.Ended.TheVariants as how
use Rattle.relay_facts.specs.HowEnded.{how_of, how_unreached}

-- the end of a way that ended other than at the reader's end
abbrev pub failure_in : Step → Option Ended
failure_in (step.Ended Eof) = None
failure_in (step.Ended ended) = Some ended
failure_in other = None

-- how the first way of a connection failed that did, after a step of one of its ways
abbrev pub failure_after : Option How → Step → Option How
failure_after (Some failure) step = Some failure
failure_after None step = option_map how_of (failure_in step)

-- how a connection ends whose target can't be connected, by this fault of the dial
abbrev pub how_undialled : Fault → How
how_undialled fault = how_unreached Down (ReadFault fault)

-- how a way ends whose call in a direction has given up
abbrev pub given_up : Dir → Step
given_up dir.Read = step.Ended (ReadFault DeadlineExceeded)
given_up dir.Write = step.Ended (WriteFault (record { fault = DeadlineExceeded; count = 0 }))

-- of a connection of which no way has failed, both came to their end, or the relay ended it
abbrev pub how_unfailed : (up down : FlowState) → How
how_unfailed Over Over = how.Eof
how_unfailed Over other = how.Closed
how_unfailed other down = how.Closed

-- how a connection ended with this failure, or none, and its ways standing so
abbrev pub how_connection_ended : Option How → PairTasks → How
how_connection_ended (Some failure) tasks = failure
how_connection_ended None tasks = how_unfailed tasks.up tasks.down
