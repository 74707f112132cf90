-- What a loop heard of a connection's sides, in the words of its ways.
use Rattle.std.specs.Prelude.{◌≡◌, ◌≢◌, ℕ, Bool, false, Option}
use Rattle.readiness.specs.declared.agenda.Why.{Why}
use Rattle.readiness.specs.declared.agenda.Why.TheVariants as why
use Rattle.readiness.specs.declared.loop_token.Side.{Side as LoopSide}
use Rattle.readiness.specs.declared.loop_token.Side.TheVariants.{First, Second}
use Rattle.relay_core.specs.declared.ways.Side.{Side}
use Rattle.relay_core.specs.declared.ways.Side.TheVariants.{Client, Target}
use Rattle.relay_core.specs.declared.ways.Way.{Way}
use Rattle.relay_core.specs.declared.ways.Way.TheVariants.{Up, Down}
use Rattle.relay_core.specs.declared.pair_tasks.PairTasks.{PairTasks}
use Rattle.relay_core.specs.declared.pair_tasks.FlowState.TheVariants.{Ready, Over}
use Rattle.relay_core.specs.PairTasks.{flow_state_of, WaitsForEvent}
use Rattle.relay_conn.specs.Deadlines.{HasCome}

-- the side of a pair whose descriptor is on this side of its place
abbrev pub side_of_pair : LoopSide → Side
side_of_pair First = Client
side_of_pair Second = Target

-- an event has this way go on: of the side that it calls, in the direction that it waits for
abbrev pub GoesOnByEvent : PairTasks → Why → Way → Type 0
GoesOnByEvent tasks (why.Ready side read write stop_ahead) way =
    WaitsForEvent (flow_state_of tasks way) way (side_of_pair side) read write
GoesOnByEvent tasks other way = ⊥

-- what a loop heard has this way go on: an event; a name, unless it has ended; its next turn, where
-- it gave way. By its moment no way goes on: what has given up ends
abbrev pub GoesOn : PairTasks → Why → Way → Type 0
GoesOn tasks (why.Ready side read write stop_ahead) way =
    WaitsForEvent (flow_state_of tasks way) way (side_of_pair side) read write
GoesOn tasks (why.Due side of now) way = ⊥
GoesOn tasks (why.Time now) way = ⊥
GoesOn tasks why.Named way = flow_state_of tasks way ≢ Over
GoesOn tasks why.Again way = flow_state_of tasks way ≡ Ready

-- whether a loop heard that reads of a way's source stop somewhere ahead
abbrev pub stop_told : Why → Way → Bool
stop_told (why.Ready First read write stop_ahead) Up = stop_ahead
stop_told (why.Ready Second read write stop_ahead) Down = stop_ahead
stop_told _ _ = false

-- a loop tells that a moment has come, which this one has
abbrev pub IsTime : Why → Option ℕ → Type 0
IsTime (why.Time now) moment = HasCome moment now
IsTime other moment = ⊥

-- a loop tells of no moment
abbrev pub IsUntimed : Why → Type 0
IsUntimed (why.Time now) = ⊥
IsUntimed other = Unit {0}

-- of ways that don't go on yet, one that an event would have go on may go on at once from then on,
-- and the others stand as they did
pub record KeepsWhatIsTold (old new : PairTasks) (why : Why) : Type 0 where
  pub told : (way : Way) → GoesOnByEvent old why way → flow_state_of new way ≡ Ready
  pub kept : (way : Way) → (GoesOnByEvent old why way → ⊥)
      → flow_state_of new way ≡ flow_state_of old way
  pub failed : new.failed ≡ old.failed
