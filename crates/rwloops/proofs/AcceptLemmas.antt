-- Turns of an accept. Lists are newest first.
use Rattle.std.proofs.Common.{◌≡◌, List, [], ◌∷◌, ◌++◌, sym, ◌∙◌, refl, subst, Result, Ok, Err, IsTrue, IsFalse}
use Rattle.std.specs.List.{list_all}
use Rattle.std.proofs.lemmas.Bool.{and_parts}
use Rattle.rwloops.specs.RetryBound.{has_short_rows}
use Rattle.rwloops.specs.Waits.{WaitCall}
use Rattle.rwloops.specs.declared.fault.Fault.{Fault}
use Rattle.rwloops.specs.declared.outcome.AcceptOutcome.{AcceptOutcome}
use Rattle.rwloops.specs.declared.outcome.AcceptOutcome.TheVariants.{Took, Interrupted, Aborted, WouldBlock, Broken}
use Rattle.rwloops.specs.declared.retries.Next.{Next}
use Rattle.rwloops.specs.declared.retries.Next.TheVariants.{Done, Failed}
use Rattle.rwloops.specs.declared.accept_loop.AcceptLoop.{AcceptLoop}
use Rattle.rwloops.specs.AcceptTrace.{AcceptTrace, accept_goes_on, is_retried, accept_blocks, accept_is_inconclusive}
use Rattle.rwloops.specs.AcceptTrace.{accept_decision, accept_rules, AcceptStandsFor, AcceptAnswers, IsAcceptTry}
use Rattle.rwloops.proofs.TraceLemmas.{GoesOn, decisive_is_newest}
use Rattle.rwloops.proofs.RetryLemmas.{both, list_all_of_older, short_rows_of_older}

-- an accept that waits goes on
blocked_goes_on : {T : Type 0} (outcome : AcceptOutcome T) (earlier : List (AcceptOutcome T)) →
    IsTrue (accept_blocks outcome) → IsTrue (accept_is_inconclusive earlier)
    → IsTrue (accept_is_inconclusive (outcome ∷ earlier))
blocked_goes_on WouldBlock earlier blocks undecided = undecided
blocked_goes_on (Took taken) earlier blocks undecided = cc
blocked_goes_on Interrupted earlier blocks undecided = cc
blocked_goes_on Aborted earlier blocks undecided = cc
blocked_goes_on (Broken kind) earlier blocks undecided = cc

pub accept_goes_on_with : {T : Type 0} (loop : AcceptLoop T) → GoesOn (accept_rules T) (AcceptStandsFor loop)
accept_goes_on_with loop = record { inconclusive = λ tries stands. stands.inconclusive; blocked = blocked_goes_on }

-- what was taken is the answer
pub answers_taken : {T : Type 0} (next : Next T) (taken : T) → next ≡ Done taken →
    (made : AcceptOutcome T) (earlier : List (AcceptOutcome T)) → IsAcceptTry made earlier
    → next ≡ accept_decision made → AcceptAnswers (accept_decision made) (made ∷ earlier) (Ok taken)
answers_taken next taken is made earlier none decided =
    subst (λ n. AcceptAnswers n (made ∷ earlier) (Ok taken)) (sym is ∙ decided) refl

-- a fault that is answered is the decision's
pub answers_fault : {T : Type 0} (next : Next T) (fault : Fault) → next ≡ Failed fault →
    (made : AcceptOutcome T) (earlier : List (AcceptOutcome T)) → IsAcceptTry made earlier
    → next ≡ accept_decision made → AcceptAnswers (accept_decision made) (made ∷ earlier) (Err fault)
answers_fault next fault is made earlier none decided =
    subst (λ n. AcceptAnswers n (made ∷ earlier) (Err fault)) (sym is ∙ decided) refl

-- older outcomes of an accept that goes on are inconclusive too
older_is_inconclusive : {T : Type 0} (newer older : List (AcceptOutcome T)) →
    IsTrue (accept_is_inconclusive (newer ++ older)) → IsTrue (accept_is_inconclusive older)
older_is_inconclusive newer older undecided =
    let parts = and_parts (list_all accept_goes_on (newer ++ older))
    (has_short_rows is_retried (newer ++ older)) undecided in
    both _ _ (list_all_of_older accept_goes_on newer older parts.0) (short_rows_of_older is_retried newer older parts.1)

-- a decisive try is an accept's newest
pub accept_decisive_is_newest : {T : Type 0} (tries : List (AcceptOutcome T)) (calls : List WaitCall)
    (result : Result T Fault) (newer older : List (AcceptOutcome T)) (made : AcceptOutcome T)
    → AcceptTrace tries calls result → tries ≡ newer ++ (made ∷ older) →
    IsFalse (accept_is_inconclusive (made ∷ older)) → newer ≡ []
accept_decisive_is_newest {T = T} tries calls result newer older made trace is decisive =
    decisive_is_newest (accept_rules T) IsAcceptTry AcceptAnswers tries calls result older_is_inconclusive newer older
    made trace is decisive
