-- The outcome trace of an accept. Lists are newest first.
use Rattle.std.specs.Prelude.{◌≡◌, Bool, true, false, ◌&&◌, List, Result, Ok, Err, IsTrue}
use Rattle.std.specs.List.{list_all}
use Rattle.base_types.specs.declared.direction.Dir.TheVariants.{Read}
use Rattle.rwloops.specs.declared.outcome.AcceptOutcome.{AcceptOutcome}
use Rattle.rwloops.specs.declared.outcome.AcceptOutcome.TheVariants.{Took, Interrupted, Aborted}
use Rattle.rwloops.specs.declared.outcome.AcceptOutcome.TheVariants.{WouldBlock, Broken}
use Rattle.rwloops.specs.declared.fault.Fault.{Fault}
use Rattle.rwloops.specs.declared.fault.Fault.TheVariants.{Device, TooManyRetries}
use Rattle.rwloops.specs.declared.retries.Next.{Next}
use Rattle.rwloops.specs.declared.retries.Next.TheVariants.{Wait, Done, Failed}
use Rattle.rwloops.specs.declared.accept_loop.AcceptLoop.{AcceptLoop}
use Rattle.rwloops.specs.RetryBound.{newest_row, has_short_rows}
use Rattle.rwloops.specs.Waits.{WaitCall}
use Rattle.rwloops.specs.OutcomeTrace.{OutcomeRules, OutcomeTrace}

-- the outcome is `Interrupted` or `Aborted`
abbrev pub is_retried : {T : Type 0} → AcceptOutcome T → Bool
is_retried Interrupted = true
is_retried Aborted = true
is_retried _ = false

-- nobody waits to be accepted
abbrev pub accept_blocks : {T : Type 0} → AcceptOutcome T → Bool
accept_blocks WouldBlock = true
accept_blocks _ = false

-- an accept may go on after this outcome
abbrev pub accept_goes_on : {T : Type 0} → AcceptOutcome T → Bool
accept_goes_on Interrupted = true
accept_goes_on Aborted = true
accept_goes_on WouldBlock = true
accept_goes_on _ = false

-- each outcome lets the accept go on, and no more than `MAX_RETRIES` in a row are `Interrupted` or
-- `Aborted`
abbrev pub accept_is_inconclusive : {T : Type 0} → List (AcceptOutcome T) → Bool
accept_is_inconclusive outcomes = list_all accept_goes_on outcomes && has_short_rows is_retried
    outcomes

-- what a decisive outcome comes to
abbrev pub accept_decision : {T : Type 0} → AcceptOutcome T → Next T
accept_decision (Took taken) = Done taken
accept_decision Interrupted = Failed TooManyRetries
accept_decision Aborted = Failed TooManyRetries
accept_decision WouldBlock = Wait
accept_decision (Broken kind) = Failed (Device kind)

-- how an accept takes its outcomes
abbrev pub accept_rules : (T : Type 0) → OutcomeRules (AcceptOutcome T) T
accept_rules T = record {
  dir = Read;
  blocks = accept_blocks;
  is_inconclusive =
      accept_is_inconclusive;
  decision = accept_decision;
}

-- the loop has been fed these outcomes, and goes on
pub record AcceptStandsFor {T : Type 0} (loop : AcceptLoop T)
    (fed : List (AcceptOutcome T)) : Type 0 where
  pub row : loop.retries.in_a_row ≡ newest_row is_retried fed
  pub inconclusive : IsTrue (accept_is_inconclusive fed)

-- a try to accept is offered nothing
abbrev pub IsAcceptTry : {T : Type 0} → AcceptOutcome T → List (AcceptOutcome T) → Type 0
IsAcceptTry made earlier = Unit {0}

-- the answer of an accept that is over: what was taken, or the fault
abbrev pub AcceptAnswers : {T : Type 0} → Next T → List (AcceptOutcome T) → Result T Fault → Type 0
AcceptAnswers (Done taken) tries result = result ≡ Ok taken
AcceptAnswers (Failed fault) tries result = result ≡ Err fault
AcceptAnswers _ tries result = ⊥

-- what an accept tried, asked and answered
abbrev pub AcceptTrace : {T : Type 0} → List (AcceptOutcome T) → List WaitCall → Result T Fault →
    Type 0
AcceptTrace {T = T} tries calls result =
    OutcomeTrace (accept_rules T) IsAcceptTry AcceptAnswers tries calls result
