-- A turn that is told otherwise is the same turn.
use Rattle.std.proofs.Common.{ℕ, List, ◌++◌, Option, Result, Ok, Err, rules}
use Rattle.std.specs.Prelude.{OnOk}
use Rattle.readiness.specs.HostCalls.{HostCall}
use Rattle.readiness.specs.Turns.{MakesTurn}
use Rattle.readiness.specs.declared.agenda.Step.{Step}
use Rattle.readiness.specs.declared.tasks.Tasks.{Tasks}

-- who told a list before tells it after, with these calls on top
abbrev Told : {T : Type 0} → (List (HostCall T) → Type 0) → (List (HostCall T) → Type 0) → List (HostCall T) → Type 0
Told {T = T} before after calls = (earlier : List (HostCall T)) → before earlier → after (calls ++ earlier)

pub told_so : {T A : Type 0} (awaited : T → Option ℕ) (before after before' after' : List (HostCall T) → Type 0) →
    ((calls : List (HostCall T)) → Told before after calls → Told before' after' calls) → (now : ℕ)
    (listed : List Step) (old new : Tasks T A) → MakesTurn awaited before after now listed old new →
    MakesTurn awaited before' after' now listed old new
told_so awaited before after before' after' so now listed old new turn = record {
  begun = turn.begun;
  still = turn.still;
  late = turn.late;
  timely = turn.timely;
  due = turn.due;
  all_named = turn.all_named;
  named = turn.named;
  by_name = turn.by_name;
  again = turn.again;
  by_turn = turn.by_turn;
  made = record {
    calls = turn.made.calls;
    made = turn.made.made;
    told = so turn.made.calls turn.made.told;
    armed = turn.made.armed;
  };
}

-- what follows of a success follows where it is one
pub where_ok : {A E : Type 0} (P Q : Type 0) → (P → Q) → (result : Result A E) → OnOk result P → OnOk result Q
where_ok P Q implied (Ok answer) holds = implied holds
where_ok P Q implied (Err fault) holds = search rules
