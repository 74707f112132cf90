-- What a loop does with its tasks, step by step. Lists of calls are newest first.
use Rattle.std.specs.Prelude.{◌≡◌, ℕ, List, [], ◌∷◌, ◌++◌, Option, Some, None}
use Rattle.rwloops.specs.Waits.{Tells}
use Rattle.fd_descriptor.specs.declared.poll_cell.PollCell.{PollCell}
use Rattle.readiness.specs.Telling.{CellCall, Ticked, told_to}
use Rattle.readiness.specs.TaskAlarms.{AreArmed}
use Rattle.readiness.specs.Tasks.{task_in, SameTasks, OthersKept}
use Rattle.readiness.specs.declared.agenda.Step.{Step}
use Rattle.readiness.specs.declared.agenda.Why.{Why}
use Rattle.readiness.specs.declared.agenda.Why.TheVariants.{Due}
use Rattle.readiness.specs.declared.loop_token.Side.{Side}
use Rattle.readiness.specs.declared.tasks.Tasks.{Tasks}
use Rattle.readiness.specs.declared.tasks.Turn.{Turn}
use Rattle.readiness.specs.declared.tasks.Turn.TheVariants.{Over}
use Rattle.readiness.specs.HostCalls.{HostCall, Resumed, Ended}

-- for a due timer the cell on its side is shown the clock, where the task has one there; for any
-- other reason no cell is told of anything
abbrev pub TicksFor : (Side → Option PollCell → Type 0) → (List CellCall → Type 0) →
    (List CellCall → Type 0) → Why → Type 0
TicksFor HasCell before after (Due side dir now) =
    (cell : Option PollCell) × HasCell side cell
    × Tells before after (told_to (λ own. own) (λ own. Ticked own now ∷ []) cell)
TicksFor HasCell before after _ = Tells before after []

module _ {T : Type 0} where
  -- the calls by which a task was resumed that answered so and was left so: one that is over is
  -- handed back next
  abbrev pub calls_of : T → Why → Turn → T → List (HostCall T)
  calls_of task why Over left = Ended left ∷ (Resumed task why Over left ∷ [])
  calls_of task why answer left = Resumed task why answer left ∷ []

  -- what its token names then
  abbrev pub named_after : Turn → T → Option T
  named_after Over left = None
  named_after _ left = Some left

module _ {T A : Type 0} where
  -- what a step does whose token names this
  abbrev pub IsStepOf : Option T → Tasks T A → Tasks T A → Step → List (HostCall T) → Type 0
  IsStepOf None old new step calls = (calls ≡ []) × SameTasks old new
  IsStepOf (Some task) old new step calls = (answer : Turn) × (left : T)
      × (calls ≡ calls_of task step.why answer left)
      × (task_in new step.token ≡ named_after answer left)

  -- what a step does: the task of its token is resumed once, ended where it is over, and no other
  pub record IsStep (old new : Tasks T A) (step : Step) (calls : List (HostCall T)) : Type 0 where
    pub done : IsStepOf (task_in old step.token) old new step calls
    pub others : OthersKept old new step.token

  -- the step is made, and told
  pub record MakesCalls (before after : List (HostCall T) → Type 0) (old new : Tasks T A)
      (step : Step) : Type 0 where
    pub calls : List (HostCall T)
    pub made : IsStep old new step calls
    pub told : Tells before after calls

  -- the step is made, and told, and leaves each task that awaits a moment an alarm by then
  pub record MakesStep (awaited : T → Option ℕ) (before after : List (HostCall T) → Type 0)
      (old new : Tasks T A) (step : Step) : Type 0 where
    pub calls : List (HostCall T)
    pub made : IsStep old new step calls
    pub told : Tells before after calls
    pub armed : AreArmed awaited old → AreArmed awaited new

  -- a step is made first, and then this, and these are the calls of both
  pub record IsThen (Then : Tasks T A → List (HostCall T) → Type 0) (old : Tasks T A)
      (step : Step) (calls : List (HostCall T)) : Type 0 where
    pub between : Tasks T A
    pub first : List (HostCall T)
    pub later : List (HostCall T)
    pub made : IsStep old between step first
    pub rest : Then between later
    pub all : calls ≡ later ++ first

  -- the steps are made one after the other, the first one first
  abbrev pub AreMade : List Step → Tasks T A → Tasks T A → List (HostCall T) → Type 0
  AreMade [] old new calls = (new ≡ old) × (calls ≡ [])
  AreMade (step ∷ rest) old new calls =
      IsThen (λ between later. AreMade rest between new later) old step calls

  -- the steps are made, and told, and leave each task that awaits a moment an alarm by then
  pub record MakesSteps (awaited : T → Option ℕ) (before after : List (HostCall T) → Type 0)
      (old new : Tasks T A) (steps : List Step) : Type 0 where
    pub calls : List (HostCall T)
    pub made : AreMade steps old new calls
    pub told : Tells before after calls
    pub armed : AreArmed awaited old → AreArmed awaited new
