-- What a turn of a loop resumes, and in which order.
use Rattle.std.specs.Prelude.{◌≡◌, ℕ, Bool, true, false, List, [], ◌++◌, Contains, Option, Some}
use Rattle.std.specs.List.{All}
use Rattle.base_types.specs.declared.direction.Dir.{Dir}
use Rattle.deadline_core.specs.Moments.{ComesBy}
use Rattle.readiness.specs.Agenda.{step_for, due_steps}
use Rattle.readiness.specs.HostCalls.{HostCall}
use Rattle.readiness.specs.LoopToken.{token_of}
use Rattle.readiness.specs.Resuming.{MakesSteps}
use Rattle.readiness.specs.TaskAlarms.{serial_at, alarm_by_place, awaited_at, AreArmed, IsPlaced}
use Rattle.readiness.specs.TaskAlarms.{StandApart, StandStill, NoneComes}
use Rattle.readiness.specs.declared.agenda.Step.{Step}
use Rattle.readiness.specs.declared.agenda.Why.{Why}
use Rattle.readiness.specs.declared.agenda.Why.TheVariants.{Time, Named, Again}
use Rattle.readiness.specs.declared.tasks.Tasks.{Tasks}

-- the step that resumes the task at a place that has this serial
abbrev pub step_at : ℕ → ℕ → Why → Step
step_at place serial why = step_for why (token_of 0 place serial)

module _ {T A : Type 0} where
  -- the alarm of the task that a step resumes is due
  pub record IsTimely (tasks : Tasks T A) (now : ℕ) (step : Step) : Type 0 where
    pub place : ℕ
    pub serial : ℕ
    pub stands : serial_at tasks place ≡ Some serial
    pub due : ComesBy (alarm_by_place tasks place) now
    pub is : step ≡ step_at place serial (Time now)

  -- a step resumes the task at a place for this reason
  pub record IsStepAt (tasks : Tasks T A) (place : ℕ) (why : Why) (step : Step) : Type 0 where
    pub serial : ℕ
    pub stands : serial_at tasks place ≡ Some serial
    pub is : step ≡ step_at place serial why

  -- these steps resume tasks whose alarm is due, and each that awaits a moment which has come
  pub record AreTimely (awaited : T → Option ℕ) (tasks : Tasks T A) (now : ℕ) (steps : List Step)
      : Type 0 where
    pub due : All (IsTimely tasks now) steps
    pub all : AreArmed awaited tasks → (place serial : ℕ) → serial_at tasks place ≡ Some serial
        → ComesBy (awaited_at awaited tasks place) now
        → Contains steps (step_at place serial (Time now))

  -- the task at a place, if there is one, is resumed for this reason, and nothing else is done
  pub record ResumesAt (awaited : T → Option ℕ) (before after : List (HostCall T) → Type 0)
      (place : ℕ) (why : Why) (old new : Tasks T A) : Type 0 where
    pub steps : List Step
    pub made : MakesSteps awaited before after old new steps
    pub only : All (IsStepAt old place why) steps
    pub is : IsPlaced old place → (serial : ℕ) → serial_at old place ≡ Some serial
        → Contains steps (step_at place serial why)
    pub apart : StandApart old new place
    pub left : NoneComes old new

  -- the tasks are resumed whose moment has come, and told so
  pub record ResumesLate (awaited : T → Option ℕ) (before after : List (HostCall T) → Type 0)
      (now : ℕ) (old new : Tasks T A) : Type 0 where
    pub steps : List Step
    pub timely : AreTimely awaited old now steps
    pub made : MakesSteps awaited before after old new steps

  -- the tasks are resumed whose timers are due, in some order
  pub record ResumesDue (awaited : T → Option ℕ) (before after : List (HostCall T) → Type 0)
      (now : ℕ) (old new : Tasks T A) : Type 0 where
    pub due : List (ℕ × Dir)
    pub made : MakesSteps awaited before after old new (due_steps now due)

  -- the tasks are resumed whose moment has come, and then those whose timers are due
  pub record ResumesTimed (awaited : T → Option ℕ) (before after : List (HostCall T) → Type 0)
      (now : ℕ) (old new : Tasks T A) : Type 0 where
    pub late : List Step
    pub timely : AreTimely awaited old now late
    pub due : List (ℕ × Dir)
    pub made : MakesSteps awaited before after old new (late ++ due_steps now due)

  -- these steps resume, for this reason alone, each task that is left
  pub record AreAll (awaited : T → Option ℕ) (why : Why) (old new : Tasks T A) (steps : List Step)
      : Type 0 where
    pub only : All (λ (step : Step). step.why ≡ why) steps
    pub all : AreArmed awaited old → (place serial : ℕ) → serial_at new place ≡ Some serial
        → Contains steps (step_at place serial why)

  -- these steps do so where all are to be resumed; else there is none
  abbrev pub AreAllIf : Bool → (T → Option ℕ) → Why → Tasks T A → Tasks T A → List Step → Type 0
  AreAllIf true awaited why old new steps = AreAll awaited why old new steps
  AreAllIf false awaited why old new steps = steps ≡ []

  -- all tasks are resumed for this reason, or nobody is, and none comes
  pub record ResumesAllIf (awaited : T → Option ℕ) (before after : List (HostCall T) → Type 0)
      (all : Bool) (why : Why) (old new : Tasks T A) : Type 0 where
    pub steps : List Step
    pub are : AreAllIf all awaited why old new steps
    pub left : NoneComes old new
    pub made : MakesSteps awaited before after old new steps

  -- what is listed is resumed, and then all where those named, or those that gave way, were too
  -- many to list
  pub record ResumesHeard (awaited : T → Option ℕ) (before after : List (HostCall T) → Type 0)
      (listed : List Step) (all_named all_again : Bool) (old new : Tasks T A) : Type 0 where
    pub named : List Step
    pub by_name : AreAllIf all_named awaited Named old new named
    pub again : List Step
    pub by_turn : AreAllIf all_again awaited Again old new again
    pub made : MakesSteps awaited before after old new (listed ++ (named ++ again))

  -- a turn resumes, before it waits, those whose moment has come or whose timers are due
  pub record BeginsTurn (awaited : T → Option ℕ) (before after : List (HostCall T) → Type 0)
      (now : ℕ) (old new : Tasks T A) : Type 0 where
    pub begun : Tasks T A
    pub still : StandStill old begun
    pub resumes : ResumesTimed awaited before after now begun new

  -- a turn resumes those, then what is listed, and then all where these were too many to list
  pub record MakesTurn (awaited : T → Option ℕ) (before after : List (HostCall T) → Type 0)
      (now : ℕ) (listed : List Step) (old new : Tasks T A) : Type 0 where
    pub begun : Tasks T A
    pub still : StandStill old begun
    pub late : List Step
    pub timely : AreTimely awaited begun now late
    pub due : List (ℕ × Dir)
    pub all_named : Bool
    pub named : List Step
    pub by_name : AreAllIf all_named awaited Named begun new named
    pub again : List Step
    pub by_turn : AreAllIf old.all_again awaited Again begun new again
    pub made : MakesSteps awaited before after begun new
        (late ++ (due_steps now due ++ (listed ++ (named ++ again))))
