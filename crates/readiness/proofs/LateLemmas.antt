-- The tasks that are resumed by their alarms, place by place.
use Rattle.std.proofs.Common.{◌≡◌, ℕ, ◌+◌, ◌<◌, ◌≤◌, inl, inr, refl, sym, ap, subst, ◌∙◌, Option, Some, None, arith, length}
use Rattle.std.proofs.Common.{List, [], ◌∷◌, ◌++◌, zero, suc, get_or}
use Rattle.std.specs.Prelude.{Contains}
use Rattle.std.specs.List.{All}
use Rattle.std.proofs.lemmas.Bool.{cases_eq, cases_lt}
use Rattle.std.proofs.lemmas.List.Elements.{All-append, Contains-append_left, Contains-append_right, Contains-push}
use Rattle.deadline_core.specs.Moments.{ComesBy, IsCovered}
use Rattle.std.proofs.lemmas.List.{get_or_past}
use Rattle.deadline_core.specs.PlaceAlarms.{alarm_of, IsNextDue}
use Rattle.readiness.specs.HostCalls.{HostCall}
use Rattle.readiness.specs.Agenda.{step_for}
use Rattle.readiness.specs.LoopToken.{token_of, place_in}
use Rattle.readiness.specs.Resuming.{MakesStep, MakesSteps}
use Rattle.readiness.specs.TaskAlarms.{serial_at, task_at, alarm_by_place, awaited_at, IsPlacedBy, AreArmed, StandApart, NoneComes}
use Rattle.readiness.specs.Turns.{step_at, IsTimely, IsStepAt, ResumesAt, ResumesLate}
use Rattle.readiness.specs.declared.agenda.Step.{Step}
use Rattle.readiness.specs.declared.agenda.Why.{Why}
use Rattle.readiness.specs.declared.agenda.Why.TheVariants.{Time}
use Rattle.readiness.specs.declared.tasks.Tasks.{Tasks}
use Rattle.readiness.proofs.ResumingLemmas.{steps_then, no_steps, one_step}

-- the places before this one are done with, and those from it on are as they were
pub record LateSoFar {T A : Type 0} (awaited : T → Option ℕ) (before now : List (HostCall T) → Type 0)
    (moment : ℕ) (old mid : Tasks T A) (from : ℕ) : Type 0 where
  pub done : List Step
  pub made : MakesSteps awaited before now old mid done
  pub due : All (IsTimely old moment) done
  pub serials : (place : ℕ) → from ≤ place → serial_at mid place ≡ serial_at old place
  pub tasks : (place : ℕ) → from ≤ place → task_at mid place ≡ task_at old place
  pub alarms : (place : ℕ) → from ≤ place → alarm_by_place mid place ≡ alarm_by_place old place
  pub room : length mid.alarms ≡ length old.alarms
  pub behind : AreArmed awaited old → (place serial : ℕ) → place < from → serial_at old place ≡ Some serial →
      ComesBy (awaited_at awaited old place) moment → Contains done (step_at place serial (Time moment))

none_timely : {T A : Type 0} (old : Tasks T A) (moment : ℕ) → All (IsTimely old moment) []
none_timely old moment = λ k d below. absurd (omega arith)

pub none_late_yet : {T A : Type 0} (awaited : T → Option ℕ) (before : List (HostCall T) → Type 0) (moment : ℕ)
    (old : Tasks T A) → LateSoFar awaited before before moment old old 0
none_late_yet awaited before moment old = record {
  done = [];
  made = no_steps awaited before old;
  due = none_timely old moment;
  serials = λ place from. refl;
  tasks = λ place from. refl;
  alarms = λ place from. refl;
  room = refl;
  behind = λ armed place serial below. absurd (omega arith);
}

-- what has come has an alarm that has come, where it is covered
come_through : (awaited alarm : Option ℕ) (moment : ℕ) → ComesBy awaited moment → IsCovered awaited alarm →
    ComesBy alarm moment
come_through None alarm moment come covered = absurd come
come_through (Some at) None moment come covered = absurd covered
come_through (Some at) (Some first) moment come covered = omega arith

-- an alarm that covers what has come is due
due_of : {T A : Type 0} (awaited : T → Option ℕ) (tasks : Tasks T A) (moment place : ℕ) → AreArmed awaited tasks →
    ComesBy (awaited_at awaited tasks place) moment → ComesBy (alarm_by_place tasks place) moment
due_of awaited tasks moment place armed come = come_through (awaited_at awaited tasks place) (alarm_by_place tasks place) moment
    come (armed.armed place (λ same. cc))

timely_of : {T A : Type 0} (old mid : Tasks T A) (place moment : ℕ) → serial_at mid place ≡ serial_at old place →
    ComesBy (alarm_by_place old place) moment → (step : Step) → IsStepAt mid place (Time moment) step → IsTimely old moment step
timely_of old mid place moment same due step at = record {
  place = place;
  serial = at.serial;
  stands = sym same ∙ at.stands;
  due = due;
  is = at.is;
}

all_timely : {T A : Type 0} (old mid : Tasks T A) (place moment : ℕ) → serial_at mid place ≡ serial_at old place →
    ComesBy (alarm_by_place old place) moment → (steps : List Step) → All (IsStepAt mid place (Time moment)) steps →
    All (IsTimely old moment) steps
all_timely old mid place moment same due steps only = λ k d below.
    timely_of old mid place moment same due _ (only k d below)

-- one place more is done with
pub one_more_late : {T A : Type 0} (awaited : T → Option ℕ) (before now after : List (HostCall T) → Type 0)
    (moment : ℕ) (old mid new : Tasks T A) (from place next : ℕ) → next ≡ place + 1 →
    LateSoFar awaited before now moment old mid from → IsNextDue mid.alarms moment from (Some place) →
    ResumesAt awaited now after place (Time moment) mid new → LateSoFar awaited before after moment old new next
one_more_late awaited before now after moment old mid new from place next is so found at =
    let due : ComesBy (alarm_by_place old place) moment =
    subst (λ (m : Option ℕ). ComesBy m moment) (so.alarms place found.0) found.1 in
    record {
      done = so.done ++ at.steps;
      made = steps_then awaited before now after old mid new so.done at.steps so.made at.made;
      due = All-append (IsTimely old moment) so.done at.steps so.due
          (all_timely old mid place moment (so.serials place found.0) due at.steps at.only);
      serials = λ one from. at.apart.serials one (λ same. absurd (omega arith)) ∙ so.serials one (omega (arith, found.0));
      tasks = λ one from. at.apart.tasks one (λ same. absurd (omega arith)) ∙ so.tasks one (omega (arith, found.0));
      alarms = λ one from. at.apart.alarms one (λ same. absurd (omega arith)) ∙ so.alarms one (omega (arith, found.0));
      room = at.apart.room ∙ so.room;
      behind = λ armed one serial below stands come. elim (cases_lt one from) [
        | inl less ↦ Contains-append_left so.done at.steps (step_at one serial (Time moment))
            (so.behind armed one serial less stands come)
        | inr more ↦ elim (cases_eq one place) [
          | inl same ↦ Contains-append_right so.done at.steps (step_at one serial (Time moment))
              (subst (λ n. Contains at.steps (step_at n serial (Time moment))) (sym same)
              (at.is ((so.made.armed armed).placed place) serial
              (so.serials place found.0 ∙ (ap (λ n. serial_at old n) (sym same) ∙ stands))))
          | inr other ↦ absurd (found.2 one more (omega arith)
              (subst (λ (m : Option ℕ). ComesBy m moment) (sym (so.alarms one more))
              (due_of awaited old moment one armed come)))
        ]
      ];
    }

-- no alarm more is due
pub all_late : {T A : Type 0} (awaited : T → Option ℕ) (before after : List (HostCall T) → Type 0) (moment : ℕ)
    (old new : Tasks T A) (from : ℕ) → LateSoFar awaited before after moment old new from →
    IsNextDue new.alarms moment from None → ResumesLate awaited before after moment old new
all_late awaited before after moment old new from so none = record {
  steps = so.done;
  timely = record {
    due = so.due;
    all = λ armed place serial stands come. elim (cases_lt place from) [
      | inl less ↦ so.behind armed place serial less stands come
      | inr more ↦ absurd (none place more (subst (λ (m : Option ℕ). ComesBy m moment) (sym (so.alarms place more))
          (due_of awaited old moment place armed come)))
    ];
  };
  made = so.made;
}

-- an alarm that is due has room
pub due_within : (alarms : List (Option ℕ)) (place moment : ℕ) → ComesBy (alarm_of alarms place) moment →
    place < length alarms
due_within alarms place moment due = elim (cases_lt place (length alarms)) [
  | inl below ↦ below
  | inr past ↦ absurd (subst (λ (m : Option ℕ). ComesBy m moment) (get_or_past alarms place None past) due)
]

-- past the room no alarm is due
pub none_past : (alarms : List (Option ℕ)) (moment from : ℕ) → length alarms ≤ from → IsNextDue alarms moment from None
none_past alarms moment from past place after due =
    let below = due_within alarms place moment due in
    absurd (omega arith)

-- ---- the step of one place

all_one : {X : Type 0} (P : X → Type 0) (x : X) → P x → (k : ℕ) (d : X) → k < 1 → P (get_or (x ∷ []) k d)
all_one P x holds zero d below = holds
all_one P x holds (suc k) d below = absurd (omega arith)

placed_task : (room place serial : ℕ) (found alarm : Option ℕ) → found ≡ Some serial →
    IsPlacedBy room place found alarm → (place < 65536) × (serial ≤ 140737488355326)
placed_task room place serial found alarm is placed =
    let task : IsPlacedBy room place (Some serial) alarm =
    subst (λ (s : Option ℕ). IsPlacedBy room place s alarm) is placed in
    (task.1, task.2)

some_is : (one other : ℕ) → Some one ≡ Some other → one ≡ other
some_is one other same = cc

place_back : (place serial : ℕ) → place < 65536 → place_in (token_of 0 place serial) ≡ place
place_back place serial below = omega arith

-- the step of the task that stands there
pub resumed_at : {T A : Type 0} (awaited : T → Option ℕ) (before after : List (HostCall T) → Type 0)
    (place : ℕ) (why : Why) (old new : Tasks T A) (token serial : ℕ) → place < 65536 →
    serial_at old place ≡ Some serial → token ≡ token_of 0 place serial →
    MakesStep awaited before after old new (step_for why token) → StandApart old new (place_in token) →
    NoneComes old new → ResumesAt awaited before after place why old new
resumed_at awaited before after place why old new token serial below stands is made apart left = record {
  steps = step_for why token ∷ [];
  made = one_step awaited before after old new (step_for why token) made;
  only = all_one (IsStepAt old place why) (step_for why token)
      (record { serial = serial; stands = stands; is = ap (step_for why) is });
  is = λ placed other same.
      let serials : serial ≡ other = some_is serial other (sym stands ∙ same) in
      subst (λ n. Contains (step_for why token ∷ []) n)
      (ap (step_for why) (is ∙ ap (λ n. token_of 0 place n) serials)) (Contains-push [] (step_for why token));
  apart = subst (λ n. StandApart old new n) (ap place_in is ∙ place_back place serial below) apart;
  left = left;
}

-- no task stands there
pub nobody_at : {T A : Type 0} (awaited : T → Option ℕ) (before : List (HostCall T) → Type 0) (place : ℕ) (why : Why)
    (old : Tasks T A) → ((serial : ℕ) → serial_at old place ≡ Some serial → place < 65536 →
    serial ≤ 140737488355326 → ⊥) → ResumesAt awaited before before place why old old
nobody_at awaited before place why old none = record {
  steps = [];
  made = no_steps awaited before old;
  only = λ k d below. absurd (omega arith);
  is = λ placed serial stands.
      let fits = placed_task (length old.alarms) place serial (serial_at old place) (alarm_by_place old place) stands placed in
      absurd (none serial stands fits.0 fits.1);
  apart = record {
    serials = λ one away. refl;
    tasks = λ one away. refl;
    alarms = λ one away. refl;
    room = refl;
  };
  left = λ one serial stands. stands;
}
