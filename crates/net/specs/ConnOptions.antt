-- What a connection asks the system for.
use Rattle.std.specs.Prelude.{◌≡◌, ◌⊎◌, ◌<◌, ◌≤◌, ◌*◌, ◌-◌, ◌^◌, ℕ}
use Rattle.std.specs.Duration.{as_nanos}
use Rattle.std.specs.declared.time.Duration.{Duration}

-- the whole seconds of a time: at least one, no shorter than the time, and by less than a second longer,
-- unless there are more than a number of 32 bits holds, or less than one
pub record IsSecondsUp (time : Duration) (seconds : ℕ) : Type 0 where
  pub some : 1 ≤ seconds
  pub no_less : (as_nanos time ≤ seconds * 1_000_000_000) ⊎ (seconds ≡ 2 ^ 32 - 1)
  pub no_more : ((seconds - 1) * 1_000_000_000 < as_nanos time) ⊎ (seconds ≡ 1)
