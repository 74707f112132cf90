-- What becomes of an accept task.
use Rattle.readiness.specs.declared.tasks.Turn.{Turn}
use Rattle.readiness.specs.declared.tasks.Turn.TheVariants as turn
use Rattle.relay_core.specs.declared.accept_ended.AcceptEnded.TheVariants.{TooManyFaults}
use Rattle.relay_core.specs.declared.accept_task.AcceptStep.{AcceptStep}
use Rattle.relay_core.specs.declared.accept_task.AcceptStep.TheVariants as step

-- what a loop does with an accept task after this step: it is over where its listener was closed or
-- drained, and a pause is a wait, as that of a task which begins anew after too many faults
abbrev pub turn_of : AcceptStep → Turn
turn_of step.Waits = turn.Waits
turn_of step.Again = turn.Again
turn_of (step.Pauses ms) = turn.Waits
turn_of (step.Ended (TooManyFaults fault)) = turn.Waits
turn_of (step.Ended other) = turn.Over
