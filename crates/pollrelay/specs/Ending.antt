-- How the program ends, and of what it warns.
use Rattle.std.specs.Prelude.{◌≡◌, ◌⊎◌, ℕ, Option, Some, None, Result, Ok, Err, if◌then◌else◌, nat_lt}
use Rattle.relay_admin.specs.declared.serve_fault.ServeFault.{ServeFault}
use Rattle.relay_command.specs.ExitStatus.{status_of_fault}
use Rattle.relay_command.specs.declared.fault.Fault.{Fault}
use Rattle.relay_command.specs.declared.fault.Fault.TheVariants as fault

-- the status of a job that was done, and else that of its fault
abbrev pub status_of : Result ℕ Fault → ℕ
status_of (Ok status) = status
status_of (Err fault) = status_of_fault fault

-- a file is good, it is bad, or what is said of it couldn't be printed
abbrev pub IsFileStatus : ℕ → Type 0
IsFileStatus status = (status ≡ 0) ⊎ ((status ≡ 1) ⊎ (status ≡ 3))

-- it is a fault of a relay
abbrev pub IsOfRelay : Fault → Type 0
IsOfRelay (fault.Relay why) = Unit {0}
IsOfRelay other = ⊥

-- so many descriptors are allowed, where these are fewer than are needed
abbrev pub fewer_than : ℕ → Option ℕ → Option ℕ
fewer_than needed None = None
fewer_than needed (Some allowed) = if nat_lt allowed needed then Some allowed else None
