-- How long a poll may wait: in milliseconds, where moments are in nanoseconds.
use Rattle.std.specs.Prelude.{◌≡◌, ◌<◌, ◌≤◌, ◌+◌, ◌*◌, ℕ, Option, Some, None, Bool, true, false}
use Rattle.readiness.specs.declared.poll_timeout.TheConstants.{MAX_WAIT_MS}

-- the wait comes to the moment
abbrev pub Comes : ℕ → ℕ → ℕ → Type 0
Comes now at ms = at ≤ now + 1000000 * ms

-- the shortest wait that comes to the moment, or the longest one where none does; the longest where
-- there is no moment
abbrev pub IsWait : ℕ → Option ℕ → ℕ → Type 0
IsWait now None ms = ms ≡ MAX_WAIT_MS
IsWait now (Some at) ms =
    (ms ≤ MAX_WAIT_MS) × (ms < MAX_WAIT_MS → Comes now at ms)
    × ((less : ℕ) → less < ms → now + 1000000 * less < at)

-- no sleep where there is something to do, and else a wait
abbrev pub IsSleep : ℕ → Option ℕ → Bool → ℕ → Type 0
IsSleep now next true ms = ms ≡ 0
IsSleep now next false ms = IsWait now next ms
