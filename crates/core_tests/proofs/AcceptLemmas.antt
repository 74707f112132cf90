-- What a turn of an accept took, it delivered. Lists are newest first.
use Rattle.std.proofs.Common.{◌≡◌, refl, sym, ap, subst, ℕ, List, [], ◌∷◌, ◌++◌, Err}
use Rattle.relay_core.specs.declared.accept_task.AcceptStep.{AcceptStep}
use Rattle.relay_core.specs.declared.accept_task.AcceptStep.TheVariants.{Waits, Again, Pauses, Ended}
use Rattle.relay_core.specs.AcceptTrace.{AcceptCall, Accepted, turn_calls}
use Rattle.relay_core.specs.Accepting.{answers_of, IsTaking, IsPausing, IsEnding, IfPauses, IfAcceptEnded}
use Rattle.core_tests.specs.Recorded.{accepted_in, delivered_in}

-- all that was taken is delivered, in order
abbrev pub AllDelivered : {T : Type 0} → List (AcceptCall T) → Type 0
AllDelivered calls = delivered_in calls ≡ accepted_in calls

-- so it is where each is delivered at once
each_delivered : {T : Type 0} (taken : List T) (earlier : List (AcceptCall T)) → AllDelivered earlier →
    AllDelivered (turn_calls (answers_of taken) ++ earlier)
each_delivered [] earlier same = same
each_delivered (one ∷ taken) earlier same = ap (λ more. one ∷ more) (each_delivered taken earlier same)

module _ {T : Type 0} (before after : List (AcceptCall T) → Type 0) (old new : List (AcceptCall T))
    (told : before old) (is_told : (calls : List (AcceptCall T)) → after calls → new ≡ calls)
    (same : AllDelivered old) where
  of_taking : (o n least most : ℕ) → IsTaking before after o n least most → AllDelivered new
  of_taking o n least most run = subst AllDelivered (sym (is_told _ (run.told old told)))
      (each_delivered run.taken old same)

  of_pausing : (o n most ms : ℕ) → IsPausing before after o n most ms → AllDelivered new
  of_pausing o n most ms run = subst AllDelivered (sym (is_told _ (run.told old told)))
      (each_delivered run.taken old same)

  pub in_turn : (o n : ℕ) (step : AcceptStep) → (step ≡ Waits → IsTaking before after o n 0 64) →
      (step ≡ Again → IsTaking before after o n 64 64) →
      IfPauses step (λ ms. IsPausing before after o n 64 ms) →
      IfAcceptEnded step (λ ended. IsEnding before after o 64 ended) → AllDelivered new
  in_turn o n Waits waits again pauses ends = of_taking o n 0 64 (waits refl)
  in_turn o n Again waits again pauses ends = of_taking o n 64 64 (again refl)
  in_turn o n (Pauses ms) waits again pauses ends = of_pausing o n 64 ms pauses
  in_turn o n (Ended ended) waits again pauses ends = subst AllDelivered
      (sym (is_told _ (ends.told old told))) (each_delivered ends.taken old same)
