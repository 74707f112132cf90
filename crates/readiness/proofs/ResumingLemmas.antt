-- Steps of a loop, one after the other. Lists of calls are newest first.
use Rattle.std.proofs.Common.{◌≡◌, ℕ, ◌+◌, ◌<◌, suc, List, [], ◌∷◌, ◌++◌, length, get_or, drop, map, refl, sym, ap, subst}
use Rattle.std.proofs.Common.{Option, Some, None}
use Rattle.std.specs.Prelude.{is_some, IfSome}
use Rattle.std.proofs.Common.{◌∙◌, append_assoc, append-nil, add-one}
use Rattle.std.proofs.Common.{◌≤◌}
use Rattle.std.proofs.Math.Seq.{drop-cons}
use Rattle.std.proofs.lemmas.List.{drop_all}
use Rattle.rwloops.specs.Waits.{Tells}
use Rattle.readiness.specs.HostCalls.{HostCall, Resumed, Ended}
use Rattle.readiness.specs.Resuming.{MakesCalls, MakesStep, MakesSteps, AreMade, IsStepOf, calls_of, named_after}
use Rattle.readiness.specs.TaskAlarms.{AreArmed}
use Rattle.readiness.specs.Tasks.{task_in, SameTasks, OthersKept}
use Rattle.readiness.specs.declared.agenda.Step.{Step}
use Rattle.readiness.specs.declared.tasks.Tasks.{Tasks}
use Rattle.readiness.specs.declared.tasks.Turn.{Turn}
use Rattle.readiness.specs.declared.tasks.Turn.TheVariants.{Waits, Over}

nil_append : {X : Type 0} (xs : List X) → [] ++ xs ≡ xs
nil_append xs = refl

-- of all these steps each is made but the rest
pub record AreMadeSoFar {T A : Type 0} (awaited : T → Option ℕ) (before now : List (HostCall T) → Type 0)
    (old mid : Tasks T A) (all rest : List Step) : Type 0 where
  pub done : List (HostCall T)
  pub told : Tells before now done
  pub finish : (new : Tasks T A) (later : List (HostCall T)) → AreMade rest mid new later →
      AreMade all old new (later ++ done)
  pub armed : AreArmed awaited old → AreArmed awaited mid

pub none_made_yet : {T A : Type 0} (awaited : T → Option ℕ) (before : List (HostCall T) → Type 0) (old : Tasks T A)
    (all : List Step) → AreMadeSoFar awaited before before old old all all
none_made_yet awaited before old all = record {
  done = [];
  told = λ earlier tells. tells;
  finish = λ new later made. subst (λ calls. AreMade all old new calls) (sym (append-nil later)) made;
  armed = λ armed. armed;
}

pub one_more_made : {T A : Type 0} (awaited : T → Option ℕ) (before now after : List (HostCall T) → Type 0)
    (old mid new : Tasks T A) (all : List Step) (step : Step) (rest : List Step) →
    AreMadeSoFar awaited before now old mid all (step ∷ rest) → MakesStep awaited now after mid new step →
    AreMadeSoFar awaited before after old new all rest
one_more_made awaited before now after old mid new all step rest so makes = record {
  done = makes.calls ++ so.done;
  told = λ earlier h. subst after (sym (append_assoc makes.calls so.done earlier))
      (makes.told (so.done ++ earlier) (so.told earlier h));
  finish = λ end later made. subst (λ calls. AreMade all old end calls) (append_assoc later makes.calls so.done)
      (so.finish end (later ++ makes.calls) (record {
        between = new;
        first = makes.calls;
        later = later;
        made = makes.made;
        rest = made;
        all = refl;
      }));
  armed = λ armed. makes.armed (so.armed armed);
}

-- the same of the one at an index
pub one_more_made_at : {T A X : Type 0} (step_of : X → Step) (awaited : T → Option ℕ)
    (before now after : List (HostCall T) → Type 0) (old mid new : Tasks T A) (all : List X) (at : ℕ) (d : X) →
    at < length all → AreMadeSoFar awaited before now old mid (map step_of all) (map step_of (drop at all)) →
    MakesStep awaited now after mid new (step_of (get_or all at d)) →
    AreMadeSoFar awaited before after old new (map step_of all) (map step_of (drop (at + 1) all))
one_more_made_at step_of awaited before now after old mid new all at d within so makes =
    rw add-one (one_more_made awaited before now after old mid new (map step_of all) (step_of (get_or all at d))
    (map step_of (drop (suc at) all))
    (subst (λ rest. AreMadeSoFar awaited before now old mid (map step_of all) (map step_of rest))
    (drop-cons all at d within) so) makes)

pub all_are_made : {T A : Type 0} (awaited : T → Option ℕ) (before after : List (HostCall T) → Type 0)
    (old new : Tasks T A) (all : List Step) → AreMadeSoFar awaited before after old new all [] →
    MakesSteps awaited before after old new all
all_are_made awaited before after old new all so = record {
  calls = so.done;
  made = so.finish new [] (refl, refl);
  told = so.told;
  armed = so.armed;
}

made_then : {T A : Type 0} (xs ys : List Step) (old between new : Tasks T A) (first later : List (HostCall T)) →
    AreMade xs old between first → AreMade ys between new later → AreMade (xs ++ ys) old new (later ++ first)
made_then [] ys old between new first later made after =
    subst (λ calls. AreMade ys old new (later ++ calls)) (sym made.1)
    (subst (λ calls. AreMade ys old new calls) (sym (append-nil later))
    (subst (λ start. AreMade ys start new later) made.0 after))
made_then (step ∷ xs) ys old between new first later made after = record {
  between = made.between;
  first = made.first;
  later = later ++ made.later;
  made = made.made;
  rest = made_then xs ys made.between between new made.later later made.rest after;
  all = ap (λ calls. later ++ calls) made.all ∙ sym (append_assoc later made.later made.first);
}

-- some steps, and then others
pub steps_then : {T A : Type 0} (awaited : T → Option ℕ) (before now after : List (HostCall T) → Type 0)
    (old between new : Tasks T A) (xs ys : List Step) → MakesSteps awaited before now old between xs →
    MakesSteps awaited now after between new ys → MakesSteps awaited before after old new (xs ++ ys)
steps_then awaited before now after old between new xs ys first then = record {
  calls = then.calls ++ first.calls;
  made = made_then xs ys old between new first.calls then.calls first.made then.made;
  told = λ earlier h. subst after (sym (append_assoc then.calls first.calls earlier))
      (then.told (first.calls ++ earlier) (first.told earlier h));
  armed = λ armed. then.armed (first.armed armed);
}

-- no step changes nothing
pub no_steps : {T A : Type 0} (awaited : T → Option ℕ) (before : List (HostCall T) → Type 0) (old : Tasks T A) →
    MakesSteps awaited before before old old []
no_steps awaited before old = record {
  calls = [];
  made = (refl, refl);
  told = λ earlier tells. tells;
  armed = λ armed. armed;
}

-- one step, as a list
pub one_step : {T A : Type 0} (awaited : T → Option ℕ) (before after : List (HostCall T) → Type 0)
    (old new : Tasks T A) (step : Step) → MakesStep awaited before after old new step →
    MakesSteps awaited before after old new (step ∷ [])
one_step awaited before after old new step makes = record {
  calls = makes.calls;
  made = record {
    between = new;
    first = makes.calls;
    later = [];
    made = makes.made;
    rest = (refl, refl);
    all = sym (nil_append makes.calls);
  };
  told = makes.told;
  armed = makes.armed;
}

-- what changes no task after a step leaves it made
done_kept : {T A : Type 0} (old mid new : Tasks T A) (step : Step) (calls : List (HostCall T)) (found : Option T) →
    IsStepOf found old mid step calls → SameTasks mid new → IsStepOf found old new step calls
done_kept old mid new step calls None done kept = (done.0, λ token. kept token ∙ done.1 token)
done_kept old mid new step calls (Some task) done kept = (done.0, done.1, done.2, kept step.token ∙ done.3)

pub step_kept : {T A : Type 0} (awaited : T → Option ℕ) (before after : List (HostCall T) → Type 0)
    (old mid new : Tasks T A) (step : Step) → MakesCalls before after old mid step → SameTasks mid new →
    (AreArmed awaited old → AreArmed awaited new) → MakesStep awaited before after old new step
step_kept awaited before after old mid new step makes kept armed = record {
  calls = makes.calls;
  made = record {
    done = done_kept old mid new step makes.calls (task_in old step.token) makes.made.done kept;
    others = λ other away. kept other ∙ makes.made.others other away;
  };
  told = makes.told;
  armed = armed;
}

-- what a step comes to whose token named this
abbrev pub ComesTo : {T A : Type 0} → (List (HostCall T) → Type 0) → (List (HostCall T) → Type 0) → Tasks T A →
    Tasks T A → Step → Option T → Type 0
ComesTo before after old end step None = SameTasks old end × Tells before after []
ComesTo {T = T} before after old end step (Some task) = (answer : Turn) × (left : T)
    × Tells before after (calls_of task step.why answer left)
    × (task_in end step.token ≡ named_after answer left)

pub step_made : {T A : Type 0} (before after : List (HostCall T) → Type 0) (old end : Tasks T A) (step : Step)
    (found : Option T) → task_in old step.token ≡ found → OthersKept old end step.token →
    ComesTo before after old end step found → MakesCalls before after old end step
step_made before after old end step None is others come = record {
  calls = [];
  made = record {
    done = subst (λ found. IsStepOf found old end step []) (sym is) (refl, come.0);
    others = others;
  };
  told = come.1;
}
step_made before after old end step (Some task) is others come = record {
  calls = calls_of task step.why come.0 come.1;
  made = record {
    done = subst (λ found. IsStepOf found old end step (calls_of task step.why come.0 come.1)) (sym is)
        (come.0, come.1, refl, come.3);
    others = others;
  };
  told = come.2;
}

-- a task that stays
pub stays_so : {T A : Type 0} (before after : List (HostCall T) → Type 0) (old end : Tasks T A) (step : Step)
    (answer : Turn) (found left : Option T) → ((task one : T) → calls_of task step.why answer one ≡
    Resumed task step.why answer one ∷ []) → ((one : T) → named_after answer one ≡ Some one) →
    is_some left ≡ is_some found → (found ≡ None → SameTasks old end) → (found ≡ None → Tells before after []) →
    IfSome found (λ task. IfSome left (λ one. Tells before after (Resumed task step.why answer one ∷ []))) →
    task_in end step.token ≡ left → ComesTo before after old end step found
stays_so before after old end step answer None left calls named both kept silent resumed is = (kept refl, silent refl)
stays_so before after old end step answer (Some task) None calls named both kept silent resumed is = cc
stays_so before after old end step answer (Some task) (Some one) calls named both kept silent resumed is =
    (answer, one, subst (λ made. Tells before after made) (sym (calls task one)) resumed, is ∙ sym (named one))

-- a task that is over
pub over_so : {T A : Type 0} (before now after : List (HostCall T) → Type 0) (old end : Tasks T A) (step : Step)
    (found left : Option T) → is_some left ≡ is_some found → (found ≡ None → Over ≡ Waits) →
    IfSome found (λ task. IfSome left (λ one. Tells before now (Resumed task step.why Over one ∷ []))) →
    IfSome left (λ one. Tells now after (Ended one ∷ [])) → task_in end step.token ≡ None →
    ComesTo before after old end step found
over_so before now after old end step None left both passed resumed handed gone = let h = passed refl in cc
over_so before now after old end step (Some task) None both passed resumed handed gone = cc
over_so before now after old end step (Some task) (Some one) both passed resumed handed gone =
    (Over, one, (λ earlier h. handed (Resumed task step.why Over one ∷ earlier) (resumed earlier h)), gone)

-- no step is left at the end of the list
pub all_are_made_at : {T A X : Type 0} (step_of : X → Step) (awaited : T → Option ℕ)
    (before after : List (HostCall T) → Type 0) (old new : Tasks T A) (all : List X) (at : ℕ) → length all ≤ at →
    AreMadeSoFar awaited before after old new (map step_of all) (map step_of (drop at all)) →
    MakesSteps awaited before after old new (map step_of all)
all_are_made_at step_of awaited before after old new all at end so =
    all_are_made awaited before after old new (map step_of all)
    (subst (λ rest. AreMadeSoFar awaited before after old new (map step_of all) (map step_of rest))
    (drop_all at all end) so)
