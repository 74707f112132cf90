-- How long a target has for a connect.
use Rattle.std.specs.Prelude.{◌+◌, ◌-◌, ◌/◌, ◌^◌, ℕ, zero, suc, min, Option, Some, None}

-- of the time that is left each target has the same part, this one and the others; the last has no
-- moment of its own
abbrev pub moves_on_at : (now : ℕ) → (until : Option ℕ) → (others : ℕ) → Option ℕ
moves_on_at now until zero = None
moves_on_at now None (suc others) = None
moves_on_at now (Some until) (suc others) =
    Some (min (now + (until - now) / (suc others + 1)) (2 ^ 64 - 1))
