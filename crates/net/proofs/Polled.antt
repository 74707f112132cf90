-- What a half of a handle's own may tell, as a fault of a call that doesn't wait.
use Rattle.std.specs.Prelude.{◌⊎◌, Option, Some, None, Result, Ok, Err, IfSome, IfErr}
use Rattle.std.proofs.Common.{inl, inr}
use Rattle.rwloops.specs.declared.fault.Fault.{Fault}
use Rattle.rwloops.specs.declared.tries.Progress.{Progress}
use Rattle.rwloops.specs.declared.tries.Progress.TheVariants as progress
use Rattle.fd_descriptor.specs.HandleCalls.{Reads, Writes, IfFailed, IsLockFault, IsOwnFault}
use Rattle.fd_descriptor.specs.Marks.{Marks}
use Rattle.net.specs.Failures.{IsPolledFault}

-- a read's, whether it was kept out or not
read_fault : (K : Type 0) (before after : Marks) (told : Fault)
    → (K × IsLockFault before after told) ⊎ IsOwnFault Reads told → IsPolledFault Reads told
read_fault K before after told (inl kept) = inl (before, after, inl kept.1)
read_fault K before after told (inr own) = inl (before, after, inr own)

-- a write's likewise
write_fault : (K : Type 0) (before after : Marks) (told : Fault)
    → (K × IsLockFault before after told) ⊎ IsOwnFault Writes told → IsPolledFault Writes told
write_fault K before after told (inl kept) = inl (before, after, inl kept.1)
write_fault K before after told (inr own) = inl (before, after, inr own)

-- a read's answer
pub read_told : {T : Type 0} (K : Type 0) (before after : Marks) (result : Option (Result T Fault))
    → IfSome result (λ answer. IfErr answer (λ told.
    (K × IsLockFault before after told) ⊎ IsOwnFault Reads told))
    → IfSome result (λ answer. IfErr answer (IsPolledFault Reads))
read_told K before after None given = tt
read_told K before after (Some (Ok value)) given = tt
read_told K before after (Some (Err told)) given = read_fault K before after told given

-- how far a write came
pub write_told : (K : Type 0) (before after : Marks) (result : Progress)
    → IfFailed result (λ failed.
    (K × IsLockFault before after failed.fault) ⊎ IsOwnFault Writes failed.fault)
    → IfFailed result (λ failed. IsPolledFault Writes failed.fault)
write_told K before after progress.Whole given = tt
write_told K before after (progress.Part count) given = tt
write_told K before after (progress.Failed failed) given = write_fault K before after failed.fault given
