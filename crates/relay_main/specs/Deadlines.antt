-- The deadlines that admin sessions set.
use Rattle.std.specs.Prelude.{ℕ, ◌+◌, ◌*◌, ◌-◌, ◌^◌, min, Option, Some, None}
use Rattle.deadline_core.specs.declared.deadline.Deadline.{Deadline}
use Rattle.deadline_core.specs.declared.deadline.Deadline.TheVariants.{At, Never}

-- what an admin session asks for: none, or one that comes so many milliseconds after now
abbrev pub asked_deadline : ℕ → Option ℕ → Deadline
asked_deadline now None = Never
asked_deadline now (Some ms) = At (min (now + ms * 1000000) (2 ^ 64 - 1))
