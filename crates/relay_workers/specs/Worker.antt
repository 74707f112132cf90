-- What a worker leaves.
use Rattle.std.specs.Prelude.{◌≡◌, ℕ, List, Option, Some, None}
use Rattle.relay_core.specs.declared.copying.Ended.{Ended}
use Rattle.relay_core.specs.declared.copying.Ended.TheVariants.{BookFull}
use Rattle.relay_core.specs.CopyTrace.{GateCall}
use Rattle.relay_workers.specs.CopyTrace.{IsCopied}

-- how a worker ended and what its share has: of a copy that began with an empty share; without one
-- it made no call
abbrev pub IsLeftBy : (List GateCall → Type 0) → (List GateCall → Type 0) → Ended → Option ℕ
    → Type 0
IsLeftBy before after ended (Some share) = IsCopied before after 0 share ended
IsLeftBy before after ended None = ended ≡ BookFull 0
