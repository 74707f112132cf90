-- What a fault of a call below is to the relay.
use Rattle.rwloops.specs.declared.fault.Fault.{Fault}
use Rattle.rwloops.specs.declared.fault.Fault.TheVariants.{OutOfMemory}
use Rattle.relay_admin.specs.declared.serve_fault.ServeFault.{ServeFault}
use Rattle.relay_admin.specs.declared.serve_fault.ServeFault.TheVariants.{Device, Memory}

-- what a fault of the poller is to the relay
abbrev pub poller_fault : Fault → ServeFault
poller_fault OutOfMemory = Memory
poller_fault other = Device
