-- What an accept with a time may be told.
use Rattle.std.specs.Prelude.{◌≡◌, ◌⊎◌, false, Result, Ok, Err, IfErr}
use Rattle.std.proofs.Common.{inl, inr, sym, subst}
use Rattle.deadline_core.specs.declared.refusal.Refusal.{Refusal}
use Rattle.deadline_core.specs.declared.refusal.Refusal.TheVariants as refusal
use Rattle.rwloops.specs.Waits.{fault_of}
use Rattle.rwloops.specs.declared.fault.Fault.{Fault}
use Rattle.fd_descriptor.specs.HandleCalls.{Accepts, IsLockFault, IsOwnFault}
use Rattle.fd_descriptor.specs.Marks.{Marks}
use Rattle.net.specs.Failures.{IsAcceptFault}

-- what who has seen nothing has seen
nothing : Marks
nothing = record { closed = false; done = false; draining = false }

-- what refuses a wait
refused : (why : Refusal) → IsAcceptFault (fault_of why)
refused refusal.Closed = inl (nothing, nothing, inr tt)
refused refusal.DeadlineExceeded = inl (nothing, nothing, inr tt)

-- the fault that tells it
pub refused_so : (why : Refusal) (told : Fault) → told ≡ fault_of why → IsAcceptFault told
refused_so why told is =
    let P : Fault → Type 0 = λ fault. IsAcceptFault fault in subst P (sym is) (refused why)

-- a fault of the try, whether it was kept out or not
accept_fault : (K : Type 0) (before after : Marks) (told : Fault)
    → (K × IsLockFault before after told) ⊎ IsOwnFault Accepts told → IsAcceptFault told
accept_fault K before after told (inl kept) = inl (before, after, inl kept.1)
accept_fault K before after told (inr own) = inl (before, after, inr own)

-- what the try answers
pub accept_told : {T : Type 0} (K : Type 0) (before after : Marks) (answer : Result T Fault)
    → IfErr answer (λ told. (K × IsLockFault before after told) ⊎ IsOwnFault Accepts told)
    → IfErr answer IsAcceptFault
accept_told K before after (Ok value) given = tt
accept_told K before after (Err told) given = accept_fault K before after told given
