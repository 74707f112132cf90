-- The pauses of accept tasks.
use Rattle.std.specs.Prelude.{◌<◌, ℕ, Option, Some, None}

-- a task that pauses until then, if it does, pauses still at this moment
abbrev pub IsPausedAt : Option ℕ → ℕ → Type 0
IsPausedAt (Some until) now = now < until
IsPausedAt None now = ⊥
