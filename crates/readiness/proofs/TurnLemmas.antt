-- A turn, of its parts.
use Rattle.std.proofs.Common.{◌≡◌, ◌∙◌, ℕ, sym, ap, subst, refl, Option, None, Some, List, [], ◌++◌, arith, length}
use Rattle.std.proofs.Common.{◌<◌, ◌≤◌, ◌+◌, inl, inr, append_assoc}
use Rattle.std.specs.Prelude.{Bool, true, false, Contains}
use Rattle.std.specs.List.{All}
use Rattle.std.proofs.lemmas.Bool.{cases_lt}
use Rattle.std.proofs.lemmas.List.Elements.{All-append, Contains-append_left, Contains-append_right}
use Rattle.readiness.specs.Agenda.{due_steps, steps_of}
use Rattle.readiness.specs.HostCalls.{HostCall}
use Rattle.readiness.specs.Resuming.{MakesSteps}
use Rattle.readiness.specs.TaskAlarms.{AreArmed, StandStill, NoneComes, serial_at, IsPlacedBy, alarm_by_place}
use Rattle.readiness.specs.Turns.{step_at, IsStepAt, ResumesAt, ResumesLate, ResumesDue, ResumesTimed, AreAllIf}
use Rattle.readiness.specs.Turns.{ResumesAllIf, ResumesHeard, BeginsTurn, MakesTurn}
use Rattle.readiness.specs.declared.agenda.Step.{Step}
use Rattle.readiness.specs.declared.batch.Ev.{Ev}
use Rattle.readiness.specs.declared.agenda.Why.{Why}
use Rattle.readiness.specs.declared.agenda.Why.TheVariants.{Named, Again}
use Rattle.readiness.specs.declared.tasks.Tasks.{Tasks}
use Rattle.readiness.proofs.AlarmLemmas.{still_armed, none_then}
use Rattle.readiness.proofs.ResumingLemmas.{steps_then, no_steps}

-- ---- all tasks, place by place

-- the places before this one are done with
pub record AllSoFar {T A : Type 0} (awaited : T → Option ℕ) (before now : List (HostCall T) → Type 0) (why : Why)
    (old mid : Tasks T A) (from : ℕ) : Type 0 where
  pub done : List Step
  pub made : MakesSteps awaited before now old mid done
  pub only : All (λ (step : Step). step.why ≡ why) done
  pub left : NoneComes old mid
  pub room : length mid.alarms ≡ length old.alarms
  pub behind : AreArmed awaited old → (place serial : ℕ) → place < from → serial_at mid place ≡ Some serial →
      Contains done (step_at place serial why)

no_step_for : (why : Why) → All (λ (step : Step). step.why ≡ why) []
no_step_for why = λ k d below. absurd (omega arith)

pub none_yet : {T A : Type 0} (awaited : T → Option ℕ) (before : List (HostCall T) → Type 0) (why : Why)
    (old : Tasks T A) → AllSoFar awaited before before why old old 0
none_yet awaited before why old = record {
  done = [];
  made = no_steps awaited before old;
  only = no_step_for why;
  left = λ place serial stands. stands;
  room = refl;
  behind = λ armed place serial below. absurd (omega arith);
}

only_here : {T A : Type 0} (tasks : Tasks T A) (place : ℕ) (why : Why) (steps : List Step) →
    All (IsStepAt tasks place why) steps → All (λ (step : Step). step.why ≡ why) steps
only_here tasks place why steps only = λ k d below. ap (λ (step : Step). step.why) (only k d below).is

-- one place more is done with
pub one_more : {T A : Type 0} (awaited : T → Option ℕ) (before now after : List (HostCall T) → Type 0) (why : Why)
    (old mid new : Tasks T A) (from : ℕ) → AllSoFar awaited before now why old mid from →
    ResumesAt awaited now after from why mid new → AllSoFar awaited before after why old new (from + 1)
one_more awaited before now after why old mid new from so at = record {
  done = so.done ++ at.steps;
  made = steps_then awaited before now after old mid new so.done at.steps so.made at.made;
  only = All-append (λ (step : Step). step.why ≡ why) so.done at.steps so.only (only_here mid from why at.steps at.only);
  left = none_then old mid new so.left at.left;
  room = at.apart.room ∙ so.room;
  behind = λ armed place serial below stands. elim (cases_lt place from) [
    | inl less ↦ Contains-append_left so.done at.steps (step_at place serial why)
        (so.behind armed place serial less (at.left place serial stands))
    | inr more ↦
        let here : place ≡ from = omega arith in
        Contains-append_right so.done at.steps (step_at place serial why)
        (subst (λ n. Contains at.steps (step_at n serial why)) (sym here)
        (at.is ((so.made.armed armed).placed from) serial
        (ap (λ n. serial_at mid n) (sym here) ∙ at.left place serial stands)))
  ];
}

placed_below : (room place serial : ℕ) (found alarm : Option ℕ) → found ≡ Some serial → IsPlacedBy room place found alarm →
    place < room
placed_below room place serial found alarm is placed =
    let task : IsPlacedBy room place (Some serial) alarm =
    subst (λ (s : Option ℕ). IsPlacedBy room place s alarm) is placed in
    task.0

-- no place is left that has room
pub all_done : {T A : Type 0} (awaited : T → Option ℕ) (before after : List (HostCall T) → Type 0) (why : Why)
    (old new : Tasks T A) (from : ℕ) → length old.alarms ≤ from → AllSoFar awaited before after why old new from →
    ResumesAllIf awaited before after true why old new
all_done awaited before after why old new from past so = record {
  steps = so.done;
  are = record {
    only = so.only;
    all = λ armed place serial stands.
        let below = placed_below (length new.alarms) place serial (serial_at new place) (alarm_by_place new place) stands
        ((so.made.armed armed).placed place) in
        so.behind armed place serial (omega (arith, below, so.room)) stands;
  };
  left = so.left;
  made = so.made;
}

pub nobody_goes : {T A : Type 0} (awaited : T → Option ℕ) (before : List (HostCall T) → Type 0) (all : Bool) (why : Why)
    (old : Tasks T A) → all ≡ false → ResumesAllIf awaited before before all why old old
nobody_goes awaited before all why old not = record {
  steps = [];
  are = subst (λ b. AreAllIf b awaited why old old []) (sym not) refl;
  left = λ place serial stands. stands;
  made = no_steps awaited before old;
}

-- ---- the parts, one after the other

-- no timer is due
pub none_due : {T A : Type 0} (awaited : T → Option ℕ) (before : List (HostCall T) → Type 0) (moment : ℕ)
    (old : Tasks T A) → ResumesDue awaited before before moment old old
none_due awaited before moment old = record { due = []; made = no_steps awaited before old }

-- the due timers after the tasks whose moment has come
pub late_then : {T A : Type 0} (awaited : T → Option ℕ) (before now after : List (HostCall T) → Type 0) (moment : ℕ)
    (old between new : Tasks T A) → ResumesLate awaited before now moment old between →
    ResumesDue awaited now after moment between new → ResumesTimed awaited before after moment old new
late_then awaited before now after moment old between new first then = record {
  late = first.steps;
  timely = first.timely;
  due = then.due;
  made = steps_then awaited before now after old between new first.steps (due_steps moment then.due) first.made then.made;
}

-- all that are left at the end were left before
all_later : {T A : Type 0} (all : Bool) (awaited : T → Option ℕ) (why : Why) (old mid end new : Tasks T A)
    (steps : List Step) → AreAllIf all awaited why mid end steps → (AreArmed awaited old → AreArmed awaited mid) →
    NoneComes end new → AreAllIf all awaited why old new steps
all_later true awaited why old mid end new steps are armed left = record {
  only = are.only;
  all = λ so place serial stands. are.all (armed so) place serial (left place serial stands);
}
all_later false awaited why old mid end new steps are armed left = are

-- what is listed, and then all
pub heard_all : {T A : Type 0} (awaited : T → Option ℕ) (before one two after : List (HostCall T) → Type 0)
    (listed : List Step) (all_named all_again : Bool) (old round mid new : Tasks T A) →
    MakesSteps awaited before one old round listed → ResumesAllIf awaited one two all_named Named round mid →
    ResumesAllIf awaited two after all_again Again mid new →
    ResumesHeard awaited before after listed all_named all_again old new
heard_all awaited before one two after listed all_named all_again old round mid new first named again = record {
  named = named.steps;
  by_name = all_later all_named awaited Named old round mid new named.steps named.are first.armed again.left;
  again = again.steps;
  by_turn = all_later all_again awaited Again old mid new new again.steps again.are
      (λ armed. named.made.armed (first.armed armed)) (λ place serial stands. stands);
  made = steps_then awaited before one after old round new listed (named.steps ++ again.steps) first
      (steps_then awaited one two after round mid new named.steps again.steps named.made again.made);
}

-- a turn whose wait failed
pub turn_ends : {T A : Type 0} (awaited : T → Option ℕ) (before after : List (HostCall T) → Type 0) (moment : ℕ)
    (old begun timed new : Tasks T A) → StandStill old begun →
    ResumesTimed awaited before after moment begun timed → new ≡ timed → BeginsTurn awaited before after moment old new
turn_ends awaited before after moment old begun timed new still resumes same = record {
  begun = begun;
  still = still;
  resumes = subst (λ t. ResumesTimed awaited before after moment begun t) (sym same) resumes;
}

-- once a turn has waited, each task that awaits a moment has an alarm by then
pub waited_armed : {T A : Type 0} (awaited : T → Option ℕ) (old begun timed waited : Tasks T A) → StandStill old begun →
    (AreArmed awaited begun → AreArmed awaited timed) → waited ≡ timed → AreArmed awaited old → AreArmed awaited waited
waited_armed awaited old begun timed waited still keeps same armed =
    subst (λ t. AreArmed awaited t) (sym same) (keeps (still_armed old begun still awaited None armed))

-- what was heard of after the tasks whose moment has come
timed_heard : {T A : Type 0} (awaited : T → Option ℕ) (before now after : List (HostCall T) → Type 0) (moment : ℕ)
    (listed : List Step) (all_named : Bool) (old begun waited new : Tasks T A) → StandStill old begun →
    ResumesTimed awaited before now moment begun waited →
    ResumesHeard awaited now after listed all_named old.all_again waited new →
    MakesTurn awaited before after moment listed old new
timed_heard awaited before now after moment listed all_named old begun waited new still timed heard = record {
  begun = begun;
  still = still;
  late = timed.late;
  timely = timed.timely;
  due = timed.due;
  all_named = all_named;
  named = heard.named;
  by_name = all_later all_named awaited Named begun waited new new heard.named heard.by_name timed.made.armed
      (λ place serial stands. stands);
  again = heard.again;
  by_turn = all_later old.all_again awaited Again begun waited new new heard.again heard.by_turn timed.made.armed
      (λ place serial stands. stands);
  made = subst (λ steps. MakesSteps awaited before after begun new steps)
      (append_assoc timed.late (due_steps moment timed.due) (listed ++ (heard.named ++ heard.again)))
      (steps_then awaited before now after begun waited new (timed.late ++ due_steps moment timed.due)
      (listed ++ (heard.named ++ heard.again)) timed.made heard.made);
}

pub same_steps : (heard events : List Ev) (told named gave_way again : List ℕ) → heard ≡ events → told ≡ named →
    gave_way ≡ again → steps_of heard told gave_way ≡ steps_of events named again
same_steps heard events told named gave_way again same_events same_names same_again =
    ap (λ e. steps_of e told gave_way) same_events ∙ (ap (λ t. steps_of events t gave_way) same_names
    ∙ ap (λ a. steps_of events named a) same_again)

-- a turn that went on after its wait
pub turn_goes_on : {T A : Type 0} (awaited : T → Option ℕ) (before now after : List (HostCall T) → Type 0) (moment : ℕ)
    (heard listed : List Step) (all_named all_again : Bool) (old begun timed waited new : Tasks T A) →
    StandStill old begun → ResumesTimed awaited before now moment begun timed → waited ≡ timed →
    ResumesHeard awaited now after heard all_named all_again waited new → all_again ≡ old.all_again → heard ≡ listed →
    MakesTurn awaited before after moment listed old new
turn_goes_on awaited before now after moment heard listed all_named all_again old begun timed waited new still resumes same
    then all is = timed_heard awaited before now after moment listed all_named old begun waited new still
    (subst (λ t. ResumesTimed awaited before now moment begun t) (sym same) resumes)
    (subst (λ steps. ResumesHeard awaited now after steps all_named old.all_again waited new) is
    (subst (λ b. ResumesHeard awaited now after heard all_named b waited new) all then))
