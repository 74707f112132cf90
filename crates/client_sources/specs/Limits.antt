-- How many clients of one source are let in.
use Rattle.std.specs.Prelude.{◌*◌, ◌-◌, ◌^◌, ◌&&◌, ℕ, Bool, Option, Some, None, is_none, unwrap_or}
use Rattle.config_values.specs.declared.rate.Rate.{Rate}
use Rattle.client_sources.specs.declared.limits.Limits.{Limits}

-- all clients are let in
abbrev pub no_limits : Limits
no_limits = record { connections = None; accepts = None }

-- neither limit is there
abbrev pub are_none : Limits → Bool
are_none limits = is_none limits.connections && is_none limits.accepts

-- how many connections of one source may stand; without a limit as many as a number of 32 bits tells
abbrev pub most_standing : Limits → ℕ
most_standing limits = unwrap_or limits.connections (2 ^ 32 - 1)

-- how many a rate lets in in its time
abbrev pub most_by : Option Rate → ℕ
most_by None = 2 ^ 32 - 1
most_by (Some rate) = rate.count

-- the nanoseconds of a rate's time; without a rate none
abbrev pub period_by : Option Rate → ℕ
period_by None = 0
period_by (Some rate) = rate.seconds * 1000000000

-- how many clients of one source are let in in their time
abbrev pub most_let_in : Limits → ℕ
most_let_in limits = most_by limits.accepts

-- that time, in nanoseconds
abbrev pub period_of : Limits → ℕ
period_of limits = period_by limits.accepts
