-- What a session leaves of its source and its sink.
use Rattle.std.specs.Prelude.{◌≡◌, ◌⊎◌, ℕ, Bool, true, List, Option, Result, Err}
use Rattle.std.specs.Io.KnownBytes.{Keeps}
use Rattle.stream_base.specs.Attempt.{FailedOrInterrupted, WriteStopped}
use Rattle.relay_admin.specs.declared.admin.end.AdminEnd.{AdminEnd}
use Rattle.relay_workers.specs.declared.session.AdminFault.{AdminFault}
use Rattle.relay_workers.specs.declared.session.AdminFault.TheVariants as faults

-- what a fault comes of
abbrev pub ComesOf : AdminFault → Bool → ℕ → Bool → ℕ → Bool → Type 0
ComesOf faults.Read source_failed source_row sink_failed sink_row sink_took_nothing =
    FailedOrInterrupted source_failed source_row
ComesOf faults.Write source_failed source_row sink_failed sink_row sink_took_nothing =
    WriteStopped sink_failed sink_row sink_took_nothing

-- all that the sink holds is flushed, or it took nothing meanwhile and was not flushed either
abbrev pub IsFlushedOrUntouched : Option (List ℕ) → Option (List ℕ) → Bool → Bool → Type 0
IsFlushedOrUntouched contents contents' flushed flushed' =
    (flushed' ≡ true) ⊎ (Keeps contents contents' × (flushed' ≡ flushed))

-- so it is, but where a write or a flush failed
abbrev pub IsFlushedUnlessCut : Result AdminEnd AdminFault
    → Option (List ℕ) → Option (List ℕ) → Bool → Bool → Type 0
IsFlushedUnlessCut (Err faults.Write) contents contents' flushed flushed' = Unit {0}
IsFlushedUnlessCut result contents contents' flushed flushed' =
    IsFlushedOrUntouched contents contents' flushed flushed'
