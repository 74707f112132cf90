-- What a loop does with its connections, as their loop and their books see it.
use Rattle.std.specs.Prelude.{◌≡◌, ◌⊎◌, ◌∷◌, ◌++◌, ℕ, List, []}
use Rattle.readiness.specs.TaskAlarms.{AreArmed}
use Rattle.readiness.specs.declared.agenda.Why.{Why}
use Rattle.readiness.specs.declared.tasks.Tasks.{Tasks}
use Rattle.readiness.specs.declared.tasks.Turn.{Turn}
use Rattle.readiness.specs.declared.tasks.Turn.TheVariants as turn
use Rattle.relay_admin.specs.declared.serve_fault.ServeFault.{ServeFault}
use Rattle.relay_conn.specs.Awaiting.{AwaitsInTime, awaited_token}
use Rattle.relay_conn.specs.declared.awaiting.AwaitStep.{AwaitStep}
use Rattle.relay_conn.specs.declared.awaiting.AwaitStep.TheVariants as step
use Rattle.relay_conn.specs.declared.awaited.Awaiting.{Awaiting}
use Rattle.relay_conn.specs.GoneOn.{ConnectionGoneOn}
use Rattle.relay_conn.specs.declared.connection.Connection.{Connection}
use Rattle.relay_conn.specs.declared.others.Dials.{Dials}
use Rattle.relay_core.specs.declared.pair_tasks.PairNext.{PairNext}
use Rattle.relay_core.specs.declared.pair_tasks.PairNext.TheVariants as next
use Rattle.relay_loops.specs.LoopTask.{awaited_by_task}
use Rattle.relay_loops.specs.declared.loop_task.LoopTask.{LoopTask}
use Rattle.relay_shared.specs.PollerFault.{poller_fault}
use Rattle.rwloops.specs.declared.fault.Fault.{Fault}

-- what follows for a loop of what follows for a connection
abbrev pub follows_of : PairNext → Turn
follows_of next.Waits = turn.Waits
follows_of next.Again = turn.Again
follows_of next.Closes = turn.Over

-- a poller's fault, as the relay tells it
abbrev pub IsPollerFault : ServeFault → Type 0
IsPollerFault told = (fault : Fault) × (told ≡ poller_fault fault)

-- a client whose header is whole is noted by its token and waits, or ends, where there is no memory to
-- note it; one that fails ends, and any other waits
abbrev pub Notes : AwaitStep → ℕ → (before after : List ℕ) → Turn → Type 0
Notes step.Waits token before after told = (told ≡ turn.Waits) × (after ≡ before)
Notes step.Fails token before after told = (told ≡ turn.Over) × (after ≡ before)
Notes step.Whole token before after told =
    ((told ≡ turn.Waits) × (after ≡ before ++ token ∷ [])) ⊎ ((told ≡ turn.Over) × (after ≡ before))

-- a client that is awaited waits on only before its moment, and those whose headers are whole are noted
abbrev pub IsAwaitTurn : Awaiting → Why → (before after : List ℕ) → Turn → Type 0
IsAwaitTurn client why before after told = (came : AwaitStep) × AwaitsInTime client why came
    × Notes came (awaited_token client) before after told

module _ {U D R : Type 0} where
  -- a connection went on by what its loop heard, and its loop does what follows of that
  pub record IsTurnOf (old new : Connection U D R) (before after : Dials R) (why : Why) (told : Turn) :
      Type 0 where
    pub next : PairNext
    pub gone_on : ConnectionGoneOn old new before after why next
    pub follows : told ≡ follows_of next

  -- each task that awaits a moment has an alarm by then, where each had one before
  abbrev pub StayArmed : {A : Type 0} → Tasks (LoopTask U D R) A → Tasks (LoopTask U D R) A → Type 0
  StayArmed old new = AreArmed awaited_by_task old → AreArmed awaited_by_task new
