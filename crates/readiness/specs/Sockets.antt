-- Sockets and halves, as callers see them.
use Rattle.std.specs.Prelude.{ℕ, ℤ, Bool, true, false, List, Option, Some, None, Result, Ok, Err}
use Rattle.std.specs.Option.{option_map}
use Rattle.std.specs.Arc.{arc_value}
use Rattle.std.specs.declared.net.ip_addr.IpAddr.{IpAddr}
use Rattle.std.specs.declared.net.ip_addr.IpAddr.TheVariants as family
use Rattle.std.specs.declared.net.socket_addr.SocketAddr.{SocketAddr}
use Rattle.mio.specs.Net.{stream_fd, unix_stream_fd}
use Rattle.mio.specs.declared.net.stream.TcpStream.{TcpStream}
use Rattle.mio.specs.declared.net.uds.stream.UnixStream.{UnixStream}
use Rattle.readiness.specs.declared.addr.Addr.{Addr}
use Rattle.readiness.specs.declared.addr.Addr.TheVariants.{Tcp as TcpAddr, Tcp6 as Tcp6Addr, Unix as UnixAddr}
use Rattle.readiness.specs.declared.sock.Sock.{Sock}
use Rattle.readiness.specs.declared.sock.Sock.TheVariants.{Tcp as TcpSock, Unix as UnixSock}
use Rattle.readiness.specs.declared.sock.Listen.{Listen}
use Rattle.readiness.specs.declared.sock.Listen.TheVariants.{Tcp as TcpListen, Unix as UnixListen}
use Rattle.readiness.specs.Peers.{bytes_of, tcp_addr}
use Rattle.readiness.specs.declared.resources.ReadHalf.{ReadHalf}
use Rattle.readiness.specs.declared.resources.WriteHalf.{WriteHalf}
use Rattle.rwloops.specs.declared.outcome.DevKind.{DevKind}

-- the address is one of TCP
abbrev pub is_tcp_addr : Addr → Bool
is_tcp_addr (TcpAddr bytes port) = true
is_tcp_addr (Tcp6Addr ip scope port) = true
is_tcp_addr (UnixAddr path) = false

-- the source of a connection to this address: the one that is said, where both are of IPv4 or both of
-- IPv6
abbrev pub source_for : Addr → Option IpAddr → Option IpAddr
source_for (TcpAddr bytes port) (Some (family.V4 own)) = Some (family.V4 own)
source_for (Tcp6Addr ip scope port) (Some (family.V6 own)) = Some (family.V6 own)
source_for addr source = None

-- the connection is one of TCP
abbrev pub is_tcp : Sock → Bool
is_tcp (TcpSock stream) = true
is_tcp (UnixSock stream) = false

-- the system's number of a connection's socket
abbrev pub socket_number : Sock → ℤ
socket_number (TcpSock tcp) = stream_fd tcp.stream
socket_number (UnixSock unix) = unix_stream_fd unix.stream

-- the peer's address, where the system's accept gave one
abbrev pub peer_of : Sock → Option Addr
peer_of (TcpSock tcp) = option_map tcp_addr tcp.peer
peer_of (UnixSock unix) = option_map UnixAddr unix.peer

-- a connection over this stream of TCP, whose peer has this address; only private functions cite it
abbrev pub tcp_sock : TcpStream → SocketAddr → Sock
tcp_sock stream peer = TcpSock (record { stream = stream; peer = Some peer })

-- the stream of a connection over a Unix socket; only private functions cite it
abbrev pub unix_stream_in : Sock → Option UnixStream
unix_stream_in (TcpSock tcp) = None
unix_stream_in (UnixSock unix) = Some unix.stream

-- the bytes of the path that is kept of a connection's peer; only private functions cite it
abbrev pub path_in : Sock → Option (List ℕ)
path_in (TcpSock tcp) = None
path_in (UnixSock unix) = option_map bytes_of unix.peer

-- the listener is one of TCP
abbrev pub is_tcp_listener : Listen → Bool
is_tcp_listener (TcpListen listener) = true
is_tcp_listener (UnixListen listener) = false

-- what came of a connection of which this failure is known
abbrev pub came_of : Option DevKind → Result (Unit {0}) DevKind
came_of None = Ok tt
came_of (Some kind) = Err kind

module _ {A : Type 0} where
  -- the socket that a half reads from
  abbrev pub read_from : ReadHalf A → Sock
  read_from half = arc_value half.sock

  -- the socket that a half writes to
  abbrev pub written_to : WriteHalf A → Sock
  written_to half = arc_value half.sock

  -- what the connection came to, where a shut has to tell it
  abbrev pub failure_of : WriteHalf A → Option DevKind
  failure_of half = half.failed

  -- a write has shown that the half's connection is made
  abbrev pub known_made : WriteHalf A → Bool
  known_made half = half.made
