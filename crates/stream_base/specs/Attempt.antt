-- What attempts to read, write and flush do to what a source or a sink tells.
use Rattle.std.specs.Prelude.{◌≡◌, ◌==◌, ◌+◌, ◌-◌, ◌^◌, ◌⊎◌, ◌||◌, ℕ, Bool, true, false, List, []}
use Rattle.std.specs.Prelude.{◌∷◌, min, take, Result, Ok, Err}
use Rattle.stream_base.specs.declared.attempt.AttemptError.{AttemptError}
use Rattle.stream_base.specs.declared.attempt.AttemptError.TheVariants.{Interrupted, Failed}
use Rattle.stream_base.specs.declared.attempt.TheConstants.{MAX_INTERRUPTIONS}

-- the interruptions in a row after an attempt; the count stops at `u64::MAX`
abbrev pub interruptions_after : {A : Type 0} → ℕ → Result A AttemptError → ℕ
interruptions_after row (Ok x) = 0
interruptions_after row (Err Interrupted) = min (row + 1) (2 ^ 64 - 1)
interruptions_after row (Err Failed) = 0

-- whether a device has failed, after an attempt
abbrev pub failed_after : {A : Type 0} → Bool → Result A AttemptError → Bool
failed_after failed (Ok x) = failed
failed_after failed (Err Interrupted) = failed
failed_after failed (Err Failed) = true

-- the bytes that a write took
abbrev pub taken : Result ℕ AttemptError → List ℕ → List ℕ
taken (Ok n) bytes = take n bytes
taken (Err e) bytes = []

-- whether some write took nothing of some bytes, after an attempt to write these
abbrev pub took_nothing_after : Bool → Result ℕ AttemptError → List ℕ → Bool
took_nothing_after took_nothing (Ok n) [] = took_nothing
took_nothing_after took_nothing (Ok n) (b ∷ bytes) = took_nothing || (n == 0)
took_nothing_after took_nothing (Err e) bytes = took_nothing

-- whether all bytes taken are flushed, once these are taken as well
abbrev pub flushed_after : Bool → List ℕ → Bool
flushed_after flushed [] = flushed
flushed_after flushed (b ∷ bytes) = false

-- a device failed, or was interrupted once more in a row than is borne
abbrev pub FailedOrInterrupted : Bool → ℕ → Type 0
FailedOrInterrupted failed interruptions = (failed ≡ true) ⊎ (interruptions ≡ MAX_INTERRUPTIONS + 1)

-- a sink failed, was interrupted once more in a row than is borne, or took nothing of some bytes
abbrev pub WriteStopped : Bool → ℕ → Bool → Type 0
WriteStopped failed interruptions took_nothing =
    (failed ≡ true) ⊎ (interruptions ≡ MAX_INTERRUPTIONS + 1) ⊎ (took_nothing ≡ true)
