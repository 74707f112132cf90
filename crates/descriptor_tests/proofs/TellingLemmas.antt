-- What halves and alarms that tell something can't have answered.
use Rattle.std.proofs.Common.{◌≡◌, subst, ℕ, ◌<◌, ◌≤◌, Bool, true, false, cond, nat_lt, arith, rules}
use Rattle.std.proofs.Common.{Option, Some, None, Result, Ok, Err}
use Rattle.std.specs.Prelude.{IfOk, IfSome, IfNone, IsErr, IsSome}
use Rattle.std.proofs.lemmas.Bool.Decides.{nat_tests}
use Rattle.deadline_core.specs.declared.deadline.Deadline.TheVariants.{At}
use Rattle.deadline_core.specs.declared.deadline.Dirs.{Dirs}
use Rattle.deadline_core.specs.declared.deadline.Dirs.TheVariants.{Both}
use Rattle.rwloops.specs.declared.fault.Fault.{Fault}
use Rattle.rwloops.specs.declared.fault.Fault.TheVariants.{OutOfMemory}
use Rattle.rwloops.specs.declared.outcome.DevKind.TheVariants.{BrokenPipe}
use Rattle.fd_descriptor.specs.Deadlines.{HasSet, WasAsked, WasRefused, setting_of}
use Rattle.fd_descriptor.specs.HandleCalls.{IsShut}

-- what no half tells isn't answered
pub never_shut : (answer : Result (Unit {0}) Fault) → IsShut (λ told. told ≡ Err BrokenPipe) answer → IsErr answer
never_shut (Ok u) shut = cc
never_shut (Err fault) shut = search rules

-- a fault is one
pub of_fault : (answer : Result (Unit {0}) Fault) (why : Fault) → answer ≡ Err why → IsErr answer
of_fault (Ok u) why is = cc
of_fault (Err fault) why is = search rules

-- what follows of each answer follows where there is one
pub where_some : {A : Type 0} (P Q : A → Type 0) → ((answer : A) → P answer → Q answer) → (result : Option A) →
    IfSome result P → IfSome result Q
where_some P Q follows (Some answer) holds = follows answer holds
where_some P Q follows None holds = search rules

-- there is an answer where there can't be none
pub not_none : {A : Type 0} (P : Type 0) → (P → ⊥) → (result : Option A) → IfNone result P → IsSome result
not_none P never (Some answer) holds = search rules
not_none P never None holds = absurd (never holds)

module _ (last at key : ℕ) (disarmed : ℕ → Dirs → Type 0) where
  -- a moment that is to come was asked for, and so taken
  asked : WasAsked (λ k d moment. moment ≤ last) disarmed key Both (cond (nat_lt 0 at) (Some at) None) → 0 < at →
      at ≤ last
  asked was later = let is : nat_lt 0 at ≡ true = grind (arith, nat_tests) in
      subst (λ b. WasAsked (λ k d moment. moment ≤ last) disarmed key Both (cond b (Some at) None)) is was

  -- a moment was refused
  was_refused : (b : Bool) → WasRefused (λ k d moment. last < moment) key Both (cond b (Some at) None) → last < at
  was_refused true was = was
  was_refused false was = absurd was

  pub set_taken : (result : Result (Unit {0}) Fault) →
      HasSet (λ k d moment. moment ≤ last) (λ k d moment. last < moment) disarmed key (setting_of Both (At at) 0)
      result → IfOk result (λ _. 0 < at → at ≤ last)
  set_taken (Ok u) set = asked set.asked
  set_taken (Err fault) set = search rules

  pub set_refused : (result : Result (Unit {0}) Fault) →
      HasSet (λ k d moment. moment ≤ last) (λ k d moment. last < moment) disarmed key (setting_of Both (At at) 0)
      result → result ≡ Err OutOfMemory → last < at
  set_refused result set is = was_refused (nat_lt 0 at)
      (subst (HasSet (λ k d moment. moment ≤ last) (λ k d moment. last < moment) disarmed key
      (setting_of Both (At at) 0)) is set)
