-- What a fault of a call below is to the relay.
use Rattle.std.specs.Prelude.{◌≡◌, ◌⊎◌}
use Rattle.rwloops.specs.declared.fault.Fault.{Fault}
use Rattle.rwloops.specs.declared.fault.Fault.TheVariants.{OutOfMemory}
use Rattle.relay_admin.specs.declared.serve_fault.ServeFault.{ServeFault}
use Rattle.relay_admin.specs.declared.serve_fault.ServeFault.TheVariants.{Log, Memory, Metrics}

-- what a refusal of the server of metrics is to the relay
abbrev pub metrics_fault : Fault → ServeFault
metrics_fault OutOfMemory = Memory
metrics_fault other = Metrics

-- what keeps a log from being written: it can't be opened, or memory or a thread was refused
abbrev pub IsLogFault : ServeFault → Type 0
IsLogFault fault = (fault ≡ Log) ⊎ (fault ≡ Memory)

-- what keeps metrics from being served: their address can't be listened on, or memory or a thread was
-- refused
abbrev pub IsMetricsFault : ServeFault → Type 0
IsMetricsFault fault = (fault ≡ Metrics) ⊎ (fault ≡ Memory)
