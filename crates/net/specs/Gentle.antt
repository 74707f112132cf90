-- A close that hears the peer out.
use Rattle.std.specs.Prelude.{ℕ, Option, Some, None, Result, Ok, Err, if◌then◌else◌, ◌==◌}
use Rattle.std.specs.declared.io.Error.{Error}
use Rattle.net.specs.declared.task.Next.{Next}
use Rattle.net.specs.declared.task.Next.TheVariants as next
use Rattle.net.specs.declared.task.Waits.TheVariants as wait

-- how a task goes on that drops what comes, by what a read gave: it is over at the peer's end, or where the
-- read fails
abbrev pub next_dropping : Option (Result ℕ Error) → Next
next_dropping None = next.Read wait.Forever
next_dropping (Some (Ok count)) = if count == 0 then next.Over else next.Again
next_dropping (Some (Err error)) = next.Over
