-- The answers of a run of accepts so far, and what one turn more makes of them.
use Rattle.std.proofs.Common.{◌≡◌, ◌<◌, ◌≤◌, ◌+◌, ◌*◌, min, ℕ, zero, suc, List, [], ◌∷◌, ◌++◌, Result, Ok, Err, refl}
use Rattle.std.proofs.Common.{ap}
use Rattle.std.proofs.Common.{sym, ◌∙◌, append_assoc, arith}
use Rattle.rwloops.specs.Waits.{Tells}
use Rattle.rwloops.specs.declared.fault.Fault.{Fault}
use Rattle.relay_core.specs.declared.accept_ended.AcceptEnded.{AcceptEnded}
use Rattle.relay_core.specs.AcceptTrace.{AcceptCall, Accepted, Delivered, Paused, faults_in_a_row, pause_after, GoOn}
use Rattle.relay_core.specs.AcceptTrace.{turn_calls, LastAnswer, AtClosed, AtDraining, AtFault, IsAccepting}
use Rattle.relay_core.specs.Accepting.{answers_of, row_after, LastFault, OfClosed, OfDrained, OneTooMany}
use Rattle.relay_core.specs.Accepting.{IsTaking, IsPausing, IsEnding, IsAcceptingSoFar, IsBorne}

-- a pause is never 0
some_pause : (faults : ℕ) → 0 < pause_after (suc faults)
some_pause zero = omega arith
some_pause (suc faults) = let before = some_pause faults in omega (arith, before)

-- the next pause is the pause after one fault more
pause_of_next : (faults pause next : ℕ) → pause ≡ pause_after faults → (pause ≡ 0 → next ≡ 5)
    → (0 < pause → next ≡ min (2 * pause) 1000)
    → next ≡ pause_after (suc faults)
pause_of_next zero pause next is first doubled = first is
pause_of_next (suc faults) pause next is first doubled = let some = some_pause faults in
    doubled (omega (arith, is, some)) ∙ ap (λ n. min (2 * n) 1000) is

pub next_pause : (faults pause next : ℕ) → pause ≡ pause_after faults → (pause ≡ 0 → next ≡ 5)
    → (0 < pause → next ≡ min (2 * pause) 1000)
    → next ≡ pause_after (faults + 1)
next_pause faults pause next is first doubled =
    let one_more : faults + 1 ≡ suc faults = omega arith in
    rw one_more (pause_of_next faults pause next is first doubled)

-- nothing was taken
pub none_taken : {T : Type 0} {before : List (AcceptCall T) → Type 0} (faults : ℕ)
    → IsTaking before before faults faults 0 0
none_taken faults = record { taken = []; many = omega arith; few = omega arith; row = refl; told = λ calls h. h }

-- one more was taken and delivered
pub one_taken : {T : Type 0} {before now after : List (AcceptCall T) → Type 0} {old mid least most : ℕ} (taken : T)
    → IsTaking before now old mid least most → Tells now after (Delivered taken ∷ Accepted (Ok taken) ∷ [])
    → IsTaking before after old 0 (least + 1) (most + 1)
one_taken taken so told = record {
  taken = taken ∷ so.taken;
  many = omega (arith, so.many);
  few = omega (arith, so.few);
  row = refl;
  told = λ calls h. told _ (so.told calls h);
}

-- some were taken, and then an accept wasn't finished
pub then_silent : {T : Type 0} {before now after : List (AcceptCall T) → Type 0} {old new least most : ℕ} (more : ℕ)
    → most ≤ more
    → IsTaking before now old new least most → Tells now after [] → IsTaking before after old new 0 more
then_silent more below so silent = record {
  taken = so.taken;
  many = omega arith;
  few = omega (arith, below, so.few);
  row = so.row;
  told = λ calls h. silent _ (so.told calls h);
}

-- some were taken, and then a fault was borne
pub then_borne : {T : Type 0} {before now after : List (AcceptCall T) → Type 0}
    {old mid new least most ms : ℕ} (more : ℕ)
    (fault : Fault) → most ≤ more → IsTaking before now old mid least most → IsBorne fault mid new ms
    → Tells now after (Accepted (Err fault) ∷ []) → IsPausing before after old new more ms
then_borne more fault below so bears told = record {
  taken = so.taken;
  fault = fault;
  may_pass = bears.may_pass;
  few = omega (arith, below, so.few);
  row = bears.row ∙ ap (λ n. n + 1) so.row;
  borne = bears.borne;
  pause = bears.pause;
  told = λ calls h. told _ (so.told calls h);
}

-- some were taken, and then came the fault that ended the task
pub then_ended : {T : Type 0} {before now after : List (AcceptCall T) → Type 0}
    {old mid least most : ℕ} {ended : AcceptEnded}
    (more : ℕ) (fault : Fault) → most ≤ more → IsTaking before now old mid least most → LastFault mid fault ended
    → Tells now after (Accepted (Err fault) ∷ []) → IsEnding before after old more ended
then_ended more fault below so ends told = record {
  taken = so.taken;
  last = fault;
  few = omega (arith, below, so.few);
  ends = rw (← so.row) ends;
  told = λ calls h. told _ (so.told calls h);
}

-- what was taken is gone on from
taken_go_on : {T : Type 0} (taken : List T) (answers : List (Result T Fault)) → GoOn answers
    → GoOn (answers_of taken ++ answers)
taken_go_on [] answers go_on = go_on
taken_go_on (one ∷ earlier) answers go_on = (tt, taken_go_on earlier answers go_on)

-- the faults in a row after answers, and what was taken then
taken_row : {T : Type 0} (taken : List T) (answers : List (Result T Fault))
    → faults_in_a_row (answers_of taken ++ answers) ≡ row_after (faults_in_a_row answers) taken
taken_row [] answers = refl
taken_row (one ∷ earlier) answers = refl

-- the calls of what was taken come on top
taken_calls : {T : Type 0} (taken : List T) (answers : List (Result T Fault))
    → turn_calls (answers_of taken ++ answers) ≡ turn_calls (answers_of taken) ++ turn_calls answers
taken_calls [] answers = refl
taken_calls (one ∷ earlier) answers = ap (λ calls. Delivered one ∷ Accepted (Ok one) ∷ calls)
    (taken_calls earlier answers)

-- the fault that ended a task is the last answer of its run
last_answer : {T : Type 0} {last : Fault} {ended : AcceptEnded} (answers : List (Result T Fault))
    → LastFault (faults_in_a_row answers) last ended → LastAnswer answers last ended
last_answer answers OfClosed = AtClosed
last_answer answers OfDrained = AtDraining
last_answer answers (OneTooMany fault may_pass row) = AtFault fault may_pass row

-- no call is the beginning of a run
pub no_accept : {T : Type 0} {before : List (AcceptCall T) → Type 0} → IsAcceptingSoFar before before 0
no_accept = record { answers = []; go_on = tt; row = refl; told = λ calls h. h }

-- a run so far goes on by a turn that took some
pub run_goes_on : {T : Type 0} {before now after : List (AcceptCall T) → Type 0} {old new least most : ℕ}
    → IsAcceptingSoFar before now old → IsTaking now after old new least most → IsAcceptingSoFar before after new
run_goes_on so turn = record {
  answers = answers_of turn.taken ++ so.answers;
  go_on = taken_go_on turn.taken so.answers so.go_on;
  row = turn.row ∙ ap (λ n. row_after n turn.taken) so.row ∙ sym (taken_row turn.taken so.answers);
  told = λ calls h. rw (taken_calls turn.taken so.answers)
      (rw (append_assoc (turn_calls (answers_of turn.taken)) (turn_calls so.answers) calls)
      (turn.told _ (so.told calls h)));
}

-- a run so far goes on by a turn that asks for a pause, and that pause
pub run_pauses : {T : Type 0} {before now mid after : List (AcceptCall T) → Type 0} {old new most ms : ℕ}
    → IsAcceptingSoFar before now old → IsPausing now mid old new most ms → Tells mid after (Paused ms ∷ [])
    → IsAcceptingSoFar before after new
run_pauses {old = old} {new = new} {ms = ms} so turn paused =
    let answers = answers_of turn.taken ++ so.answers in
    let row : new ≡ faults_in_a_row (Err turn.fault ∷ answers) =
    turn.row ∙ ap (λ n. row_after n turn.taken + 1) so.row ∙ ap (λ n. n + 1) (sym (taken_row turn.taken so.answers)) in
    let pause : ms ≡ pause_after (faults_in_a_row (Err turn.fault ∷ answers)) =
    turn.pause ∙ ap (λ n. pause_after n) row in
    record {
      answers = Err turn.fault ∷ answers;
      go_on = ((turn.may_pass, omega (arith, row, turn.borne)), taken_go_on turn.taken so.answers so.go_on);
      row = row;
      told = λ calls h. rw (← pause) (paused _ (rw (taken_calls turn.taken so.answers)
          (rw (append_assoc (turn_calls (answers_of turn.taken)) (turn_calls so.answers) calls)
          (turn.told _ (so.told calls h)))));
    }

-- a run so far ends by a turn that ended it
pub run_ends : {T : Type 0} {before now after : List (AcceptCall T) → Type 0} {old most : ℕ} {ended : AcceptEnded}
    → IsAcceptingSoFar before now old → IsEnding now after old most ended → IsAccepting before after ended
run_ends so turn = let answers = answers_of turn.taken ++ so.answers in record {
  calls = Accepted (Err turn.last) ∷ turn_calls answers;
  trace = record {
    answers = answers;
    last = turn.last;
    go_on = taken_go_on turn.taken so.answers so.go_on;
    ends = last_answer answers (rw (sym (ap
        (λ n. row_after n turn.taken) so.row ∙ sym (taken_row turn.taken so.answers))) turn.ends);
    in_order = refl;
  };
  told = λ calls h. rw (taken_calls turn.taken so.answers)
      (rw (append_assoc (turn_calls (answers_of turn.taken)) (turn_calls so.answers) calls)
      (turn.told _ (so.told calls h)));
}
