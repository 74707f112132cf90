-- The moment of a line, and what a line says of a target.
use Rattle.std.specs.Prelude.{◌≡◌, ◌%◌, ℕ, min}
use Rattle.relay_facts.specs.declared.shared_health.Change.{Change}
use Rattle.relay_facts.specs.declared.shared_health.Change.TheVariants.{Down, Up}
use Rattle.relay_log.specs.declared.ended.Ended.{Ended}
use Rattle.relay_log.specs.declared.ended.Ended.TheVariants.{TargetDown, TargetUp}

-- of so many milliseconds since 1970 those of the day; a moment after the end of the year 9999 is
-- taken for that
abbrev pub IsMsOfDay : (passed of_day : ℕ) → Type 0
IsMsOfDay passed of_day = of_day ≡ min passed 253402300799999 % 86400000

-- what a line says of a target whose state has changed so
abbrev pub ended_of : Change → Ended
ended_of Down = TargetDown
ended_of Up = TargetUp
