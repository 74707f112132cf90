-- The addresses that rules have.
use Rattle.std.specs.Prelude.{◌==◌, Option, Some, None, if◌then◌else◌}
use Rattle.std.specs.Net.Socket.{socket_port}
use Rattle.std.specs.declared.net.socket_addr.SocketAddr.{SocketAddr}
use Rattle.readiness.specs.Peers.{tcp_addr}
use Rattle.readiness.specs.declared.addr.Addr.{Addr}

-- what an address of TCP is to a rule: nothing without a port, as of a socket that isn't bound
abbrev pub rule_addr : SocketAddr → Option Addr
rule_addr at = if socket_port at == 0 then None else Some (tcp_addr at)
