-- What the tasks of a pair wait for, and what follows when one of them went on.
use Rattle.std.specs.Prelude.{◌≡◌, ◌≢◌, ◌⊎◌, Bool, true}
use Rattle.base_types.specs.declared.direction.Dir.{Dir}
use Rattle.base_types.specs.declared.direction.Dir.TheVariants.{Read, Write}
use Rattle.relay_core.specs.declared.copying.Ended.TheVariants.{Eof}
use Rattle.relay_core.specs.declared.passing.Step.{Step}
use Rattle.relay_core.specs.declared.passing.Step.TheVariants as step
use Rattle.relay_core.specs.declared.ways.Side.{Side}
use Rattle.relay_core.specs.declared.ways.Side.TheVariants.{Client, Target}
use Rattle.relay_core.specs.declared.ways.Way.{Way}
use Rattle.relay_core.specs.declared.ways.Way.TheVariants.{Up, Down}
use Rattle.relay_core.specs.declared.pair_tasks.FlowState.{FlowState}
use Rattle.relay_core.specs.declared.pair_tasks.FlowState.TheVariants.{Waits, Ready, Over}
use Rattle.relay_core.specs.declared.pair_tasks.PairTasks.{PairTasks}

-- the side that a way reads from
abbrev pub source : Way → Side
source Up = Client
source Down = Target

-- the side that a way writes to
abbrev pub sink : Way → Side
sink Up = Target
sink Down = Client

-- the side that a way calls: it reads from its source and writes to its sink
abbrev pub called_side : Way → Dir → Side
called_side way Read = source way
called_side way Write = sink way

-- the state of a way
abbrev pub flow_state_of : PairTasks → Way → FlowState
flow_state_of tasks Up = tasks.up
flow_state_of tasks Down = tasks.down

-- the other way
abbrev pub other_way : Way → Way
other_way Up = Down
other_way Down = Up

-- the directions that an event is ready in have this one
abbrev pub Has : (read write : Bool) → Dir → Type 0
Has read write Read = read ≡ true
Has read write Write = write ≡ true

-- a way that stands so waits for what an event of a side tells: that a call of this side, in the
-- direction that it waits for, may be made again
abbrev pub WaitsForEvent : FlowState → Way → Side → (read write : Bool) → Type 0
WaitsForEvent (Waits dir) way side read write = (called_side way dir ≡ side) × Has read write dir
WaitsForEvent _ way side read write = ⊥

-- the state of a way after a step
abbrev pub flow_state_after : Step → FlowState
flow_state_after step.Again = Ready
flow_state_after (step.Waits dir) = Waits dir
flow_state_after (step.Ended ended) = Over

-- a step ended its way other than at the reader's end
abbrev pub IsFailure : Step → Type 0
IsFailure (step.Ended ended) = ended ≢ Eof
IsFailure _ = ⊥

-- a pair is to be closed: a way of it failed, or both ended
abbrev pub HasToClose : PairTasks → Type 0
HasToClose tasks = (tasks.failed ≡ true) ⊎ ((tasks.up ≡ Over) × (tasks.down ≡ Over))

-- a pair isn't to be closed, and a way of it can go on at once
abbrev pub MayGoOn : PairTasks → Type 0
MayGoOn tasks = (HasToClose tasks → ⊥) × ((tasks.up ≡ Ready) ⊎ (tasks.down ≡ Ready))
