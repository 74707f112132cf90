-- The exit statuses of the program.
use Rattle.std.specs.Prelude.{◌≡◌, ◌||◌, ◌⊎◌, ℕ, List, if◌then◌else◌}
use Rattle.relay_admin.specs.admin.Refusal.{reply_breaks_off, reply_refuses}
use Rattle.lockword_script.specs.declared.outcome.TraceFault.{TraceFault}
use Rattle.lockword_script.specs.declared.outcome.TraceFault.TheVariants as trace
use Rattle.relay_admin.specs.declared.serve_fault.ServeFault.TheVariants as relay
use Rattle.relay_command.specs.declared.fault.Fault.{Fault}
use Rattle.relay_command.specs.declared.fault.Fault.TheVariants as fault

-- 2 for a command line, 1 for bad rules, 3 for a device or memory
abbrev pub status_of_fault : Fault → ℕ
status_of_fault fault.BadCommandLine = 2
status_of_fault (fault.Relay (relay.BadRules rules)) = 1
status_of_fault _ = 3

-- the fault of the program that a fault of its trace is
abbrev pub fault_of_trace : TraceFault → Fault
fault_of_trace trace.Read = fault.TraceRead
fault_of_trace trace.Write = fault.TraceWrite
fault_of_trace trace.OutOfMemory = fault.TraceMemory

-- 1 for a reply that refuses or breaks off, 0 for any other
abbrev pub status_of_reply : List ℕ → ℕ
status_of_reply reply = if reply_refuses reply || reply_breaks_off reply then 1 else 0

-- no whole reply came, it couldn't be printed, or memory was refused
abbrev pub IsFaultOfReply : Fault → Type 0
IsFaultOfReply told = (told ≡ fault.Reach) ⊎ (told ≡ fault.Print) ⊎ (told ≡ fault.Relay relay.Memory)
