-- What a call came to that doesn't wait: a fault in the words of its answer, and what it did with its half.
use Rattle.std.specs.Prelude.{◌≡◌, ◌⊎◌, Bool, true, false, List, Option, Some, Result, Err}
use Rattle.deadline_core.specs.declared.refusal.Refusal.{Refusal}
use Rattle.rwloops.specs.declared.fault.Fault.{Fault}
use Rattle.rwloops.specs.declared.tries.Progress.{Progress}
use Rattle.rwloops.specs.declared.tries.Progress.TheVariants as progress
use Rattle.rwloops.specs.Waits.{fault_of}
use Rattle.rwloops.specs.TryNow.{IsTried}

-- a fault in the words of a read, an accept or a shut
abbrev pub fails_by : {T : Type 0} → Fault → Option (Result T Fault)
fails_by fault = Some (Err fault)

-- a fault in the words of a write that took nothing
abbrev pub write_fails_by : Fault → Progress
write_fails_by fault = progress.Failed (record { fault = fault; count = 0 })

-- a write is over: it doesn't wait for its half
abbrev pub is_over : Progress → Bool
is_over progress.Whole = true
is_over (progress.Part count) = false
is_over (progress.Failed failed) = true

-- the cell refused, as closing or as expired, and that is told, and the half wasn't touched; or else
-- the half was tried, and tells the tries of which the trace is made up
abbrev pub IsTriedOrRefused : {H A Y : Type 0} → (Fault → Y) → (H → List A → Type 0)
    → (List A → Type 0) → Y → H → H → Type 0
IsTriedOrRefused told tells Trace result before after =
    ((refusal : Refusal) × (result ≡ told (fault_of refusal)) × (after ≡ before))
    ⊎ IsTried Trace (tells before) (tells after)
