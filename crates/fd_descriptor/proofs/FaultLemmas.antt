-- A loop's own fault is one that the call may tell, whatever the handle has seen.
use Rattle.std.specs.Prelude.{ℕ, Option, Some, None, Result, Ok, Err, IfErr, IfSome, IfNone}
use Rattle.std.proofs.Common.{inr}
use Rattle.rwloops.specs.declared.fault.Fault.{Fault}
use Rattle.rwloops.specs.declared.fault.WriteFault.{WriteFault}
use Rattle.fd_descriptor.specs.HandleCalls.{Call, Writes, IsOwnFault, MayTell}
use Rattle.fd_descriptor.specs.Marks.{Marks}

pub own_fault : {T : Type 0} (call : Call) (before after : Marks) (answer : Result T Fault) →
    IfErr answer (IsOwnFault call) → IfErr answer (MayTell call before after)
own_fault call before after (Ok given) own = tt
own_fault call before after (Err told) own = inr own

pub own_write_fault : (before after : Marks) (answer : Result ℕ WriteFault) →
    IfErr answer (λ failed. IsOwnFault Writes failed.fault) →
    IfErr answer (λ failed. MayTell Writes before after failed.fault)
own_write_fault before after (Ok count) own = tt
own_write_fault before after (Err failed) own = inr own

-- what holds of each answer holds of the one that there is
pub if_some : {T : Type 0} (answer : Option T) (P Q : T → Type 0) → ((given : T) → P given → Q given)
    → IfSome answer P → IfSome answer Q
if_some None P Q so holds = tt
if_some (Some given) P Q so holds = so given holds

-- the same where there is no answer
pub if_none : {T : Type 0} (answer : Option T) (P Q : Type 0) → (P → Q) → IfNone answer P → IfNone answer Q
if_none None P Q so holds = so holds
if_none (Some given) P Q so holds = tt
