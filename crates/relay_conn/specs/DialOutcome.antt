-- What a step of a dial says of its target.
use Rattle.std.specs.Prelude.{ℕ, Bool, true, false, Option, Some, None, nat_le, if◌then◌else◌}
use Rattle.readiness.specs.declared.agenda.Why.{Why}
use Rattle.readiness.specs.declared.agenda.Why.TheVariants as why
use Rattle.relay_conn.specs.declared.dialing.DialStep.{DialStep}
use Rattle.relay_conn.specs.declared.dialing.DialStep.TheVariants as step
use Rattle.relay_log.specs.declared.ended.Cause.{Cause}
use Rattle.relay_log.specs.declared.ended.Cause.TheVariants.{Unreachable}
use Rattle.relay_log.specs.declared.ended.Ended.{Ended as How}
use Rattle.relay_log.specs.declared.ended.Ended.TheVariants as how
use Rattle.target_pick.specs.declared.health.Outcome.{Outcome}
use Rattle.target_pick.specs.declared.health.Outcome.TheVariants.{Connected, Failed}

-- it ended so since its target wasn't reached
abbrev pub is_unreached : Option How → Bool
is_unreached (Some (how.NoTarget cause)) = true
is_unreached other = false

-- why its target wasn't reached, where it ended so
abbrev pub failure_cause : Option How → Cause
failure_cause (Some (how.NoTarget cause)) = cause
failure_cause other = Unreachable

-- a loop tells that this moment has come
abbrev pub tells_time : Why → Option ℕ → Bool
tells_time (why.Time now) (Some at) = nat_le at now
tells_time _ _ = false

-- that it failed, where this is so
abbrev pub failed_if : Bool → Option Outcome
failed_if holds = if holds then Some Failed else None

-- it is connected; it failed, or its part of the time is over, and another target is tried; it failed
-- as the last, or the time to connect is over. That a client has gone, or that a side's read gave up,
-- says nothing of it
abbrev pub outcome_of : (failure : Option How) → (connect_by : Option ℕ) → DialStep → Why → Option Outcome
outcome_of failure connect_by step.Connected why = Some Connected
outcome_of failure connect_by step.Seeks why = Some Failed
outcome_of failure connect_by step.Failed why = failed_if (is_unreached failure)
outcome_of failure connect_by step.Late why = failed_if (tells_time why connect_by)
outcome_of failure connect_by other why = None
