-- Why a target wasn't reached last, as a number.
use Rattle.std.specs.Prelude.{◌==◌, ℕ, if◌then◌else◌}
use Rattle.relay_admin.specs.declared.admin.shown_target.LastFailure.{LastFailure}
use Rattle.relay_admin.specs.declared.admin.shown_target.LastFailure.TheVariants as failure
use Rattle.relay_log.specs.declared.ended.Cause.{Cause}
use Rattle.relay_log.specs.declared.ended.Cause.TheVariants as cause

-- the number of a cause; a want of descriptors is no fault of a target's
abbrev pub failure_number : Cause → ℕ
failure_number cause.Refused = 1
failure_number cause.Timeout = 2
failure_number cause.Unreachable = 3
failure_number cause.Descriptors = 3
failure_number cause.Down = 3

-- what a number says: 0 that none has failed
abbrev pub last_failure_of : ℕ → LastFailure
last_failure_of number =
    if number == 0 then failure.Never
    else if number == 1 then failure.Refused
    else if number == 2 then failure.Timeout
    else failure.Unreachable
