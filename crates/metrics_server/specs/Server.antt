-- A server of figures, as its callers see it.
use Rattle.std.specs.Prelude.{◌≡◌, ◌⊎◌, ℕ, true, Option, IfSome}
use Rattle.std.specs.Arc.{arc_value}
use Rattle.std.specs.Global.{Global}
use Rattle.readiness.specs.EventLoop.{remote_in, remote_of}
use Rattle.readiness.specs.Sockets.{is_tcp_addr}
use Rattle.readiness.specs.declared.addr.Addr.{Addr}
use Rattle.readiness.specs.declared.loop_remote.LoopRemote.{LoopRemote}
use Rattle.rwloops.specs.declared.fault.Fault.{Fault}
use Rattle.rwloops.specs.declared.fault.Fault.TheVariants.{Device, OutOfMemory}
use Rattle.rwloops.specs.declared.outcome.DevKind.TheVariants.{Other}
use Rattle.metrics_server.specs.Desk.{metered_at}
use Rattle.metrics_server.specs.declared.running.Running.{Running}
use Rattle.metrics_server.specs.declared.server.MetricsServer.{MetricsServer}

module _ {R M : Type 0} where
  -- the nanoseconds that it gives each client
  abbrev pub limit_of : MetricsServer R M → ℕ
  limit_of server = server.desk.limit_ns

  -- whose figures it tells
  abbrev pub metered_of : MetricsServer R M → M
  metered_of server = metered_at server.desk

  -- the port at which it listens, if it does so by TCP
  abbrev pub port_of : MetricsServer R M → Option ℕ
  port_of server = server.port

  -- what wakes its loop
  abbrev pub remote_behind : MetricsServer R M → LoopRemote Global
  remote_behind server = remote_in server.tasks

  -- the deadlines of its clients wake its own loop
  abbrev pub HasOwnAlarms : MetricsServer R M → Type 0
  HasOwnAlarms server = remote_of server.desk.alarms ≡ remote_behind server

-- what a stop wakes
abbrev pub woken_by_stop : Running → LoopRemote Global
woken_by_stop running = arc_value running.remote

-- only a TCP address has a port
abbrev pub IsPortOf : Addr → Option ℕ → Type 0
IsPortOf addr port = IfSome port (λ _. is_tcp_addr addr ≡ true)

-- memory was refused, or the system refused the address, a poller or the time
abbrev pub IsOpenFault : Fault → Type 0
IsOpenFault fault = (fault ≡ OutOfMemory) ⊎ (fault ≡ Device Other)
