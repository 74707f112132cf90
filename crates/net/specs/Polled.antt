-- What a call answers that doesn't wait.
use Rattle.std.specs.Prelude.{◌≡◌, ◌<◌, ℕ, Bool, Option, Some, None, Result, Ok, Err}
use Rattle.std.specs.Prelude.{IsSomeAnd}
use Rattle.std.specs.declared.io.Error.{Error}
use Rattle.rwloops.specs.declared.fault.Fault.{Fault}
use Rattle.rwloops.specs.declared.tries.Progress.{Progress}
use Rattle.rwloops.specs.declared.tries.Progress.TheVariants as progress
use Rattle.net.specs.declared.stream.Conn.{Conn}
use Rattle.net.specs.declared.task.Blocked.{Blocked}
use Rattle.net.specs.Conn.{IsWriteAnswer}

-- the answer of a write that was offered so many bytes, by how far it came, with the fault that is left
-- for the next one to tell
abbrev pub IsPolledWrite : Progress → ℕ → Option (Result ℕ Error) → Option Fault → Type 0
IsPolledWrite progress.Whole offered result untold = (result ≡ Some (Ok offered)) × (untold ≡ None)
IsPolledWrite (progress.Part count) offered result untold =
    (count ≡ 0 → result ≡ None) × (0 < count → result ≡ Some (Ok count)) × (untold ≡ None)
IsPolledWrite (progress.Failed failed) offered result untold =
    IsSomeAnd result (λ answer. IsWriteAnswer (Err failed) answer untold)

module _ {R : Type 0} where
  -- in which directions this clone's last call that doesn't wait would have blocked
  abbrev pub blocked_of : Conn R → Blocked
  blocked_of conn = conn.blocked

  -- its last read would have, and nothing was told since
  abbrev pub reads_block : Conn R → Bool
  reads_block conn = (blocked_of conn).read

  -- its last write would have, and nothing was told since
  abbrev pub writes_block : Conn R → Bool
  writes_block conn = (blocked_of conn).write
