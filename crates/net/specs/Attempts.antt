-- Which address of a host is tried next, and for how long.
use Rattle.std.specs.Prelude.{◌≡◌, ◌<◌, ◌+◌, ◌-◌, ◌/◌, ℕ, List, Option, Some, None, false}
use Rattle.std.specs.Prelude.{length, option_map, slice_get}
use Rattle.std.specs.Duration.{as_nanos}
use Rattle.deadline_core.specs.declared.deadline.Deadline.{Deadline}
use Rattle.deadline_core.specs.declared.deadline.Deadline.TheVariants as deadline
use Rattle.readiness.specs.declared.addr.Addr.{Addr}
use Rattle.net.specs.Task.{has_passed}
use Rattle.net.specs.declared.attempts.Attempt.{Attempt}
use Rattle.net.specs.declared.attempts.Attempts.{Attempts}

-- the addresses, in the order in which they are tried
abbrev pub addrs_of : Attempts → List Addr
addrs_of attempts = attempts.addrs.items

-- how many of them were tried
abbrev pub tried_of : Attempts → ℕ
tried_of attempts = attempts.tried

-- until when they are tried
abbrev pub ends_at : Attempts → Deadline
ends_at attempts = attempts.until

-- the nanoseconds that one of so many has of the time until a moment: each the same part
abbrev pub part_of : Deadline → ℕ → ℕ → Option ℕ
part_of (deadline.At at) now left = Some ((at - now) / left)
part_of deadline.Never now left = None

-- an address is left, and the time isn't over
abbrev pub MayTry : Attempts → ℕ → Type 0
MayTry attempts now = (tried_of attempts < length (addrs_of attempts))
    × (has_passed (ends_at attempts) now ≡ false)

-- the first address that wasn't tried is tried now, for its part of the time that is left
pub record IsNextTry (old : Attempts) (now : ℕ) (attempt : Attempt) (new : Attempts) : Type 0 where
  pub addr : slice_get (addrs_of old) (tried_of old) ≡ Some attempt.addr
  pub time : option_map as_nanos attempt.time
      ≡ part_of (ends_at old) now (length (addrs_of old) - tried_of old)
  pub tried : tried_of new ≡ tried_of old + 1
  pub same_addrs : addrs_of new ≡ addrs_of old
  pub same_until : ends_at new ≡ ends_at old
