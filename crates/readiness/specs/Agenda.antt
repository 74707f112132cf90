-- What a turn resumes, and in which order.
use Rattle.std.specs.Prelude.{ℕ, List, ◌++◌, map}
use Rattle.base_types.specs.declared.direction.Dir.{Dir}
use Rattle.readiness.specs.Batch.{read_ready, write_ready, stop_ahead}
use Rattle.readiness.specs.LoopToken.{side_in}
use Rattle.readiness.specs.declared.batch.Ev.{Ev}
use Rattle.readiness.specs.declared.agenda.Step.{Step}
use Rattle.readiness.specs.declared.agenda.Why.{Why}
use Rattle.readiness.specs.declared.agenda.Why.TheVariants.{Ready, Due, Named, Again}

-- an event resumes the task of its token, with the side in the token, what it makes ready, and
-- whether reads stop somewhere ahead
abbrev pub event_step : Ev → Step
event_step event = record {
  token = event.token;
  why = Ready (side_in event.token) (read_ready event) (write_ready event) (stop_ahead event);
}

-- a timer resumes the task whose token is its key
abbrev pub due_step : ℕ → Dir → ℕ → Step
due_step key dir now = record { token = key; why = Due (side_in key) dir now }

-- each due timer's task in order
abbrev pub due_steps : ℕ → List (ℕ × Dir) → List Step
due_steps now due = map (λ timer. due_step timer.0 timer.1 now) due

-- the task that a token names is resumed for this reason
abbrev pub step_for : Why → ℕ → Step
step_for why token = record { token = token; why = why }

-- each event's task in order, then each that was named, then each that gave way
abbrev pub steps_of : List Ev → List ℕ → List ℕ → List Step
steps_of events told gave_way =
    map event_step events ++ (map (step_for Named) told ++ map (step_for Again) gave_way)
