-- Addresses that the system told, as of a peer.
use Rattle.std.specs.Prelude.{ℕ, Bool, List, [], ◌∷◌, Option, Some, None, length, nat_le, take, if◌then◌else◌}
use Rattle.std.specs.Str.{bytes_eq}
use Rattle.std.specs.Net.Addr.{ipv4_octets, ipv6_segments, low_octets}
use Rattle.std.specs.Net.Socket.{v4_ip, v4_port, v6_ip, v6_port, v6_scope_id}
use Rattle.std.specs.declared.net.socket_addr.SocketAddr.{SocketAddr}
use Rattle.std.specs.declared.net.socket_addr.SocketAddr.TheVariants.{V4, V6}
use Rattle.arrayvec.specs.ArrayString.{ArrayString}
use Rattle.readiness.specs.declared.addr.Addr.{Addr}
use Rattle.readiness.specs.declared.addr.Addr.TheVariants.{Tcp, Tcp6}
use Rattle.readiness.specs.declared.addr.TheConstants.{MAX_PATH_BYTES}

-- the bytes of a path that is kept
abbrev pub bytes_of : ArrayString → List ℕ
bytes_of path = path.bytes

-- the segments are those of an IPv4-mapped address
abbrev pub is_mapped : List ℕ → Bool
is_mapped segments = bytes_eq (take 6 segments) (0 ∷ 0 ∷ 0 ∷ 0 ∷ 0 ∷ 0xffff ∷ [])

-- the same address of TCP; an IPv4-mapped one is the IPv4 address in it
abbrev pub tcp_addr : SocketAddr → Addr
tcp_addr (V4 at) = Tcp (ipv4_octets (v4_ip at)) (v4_port at)
tcp_addr (V6 at) =
    if is_mapped (ipv6_segments (v6_ip at)) then Tcp (low_octets (v6_ip at)) (v6_port at)
    else Tcp6 (v6_ip at) (v6_scope_id at) (v6_port at)

-- a path of so many bytes as an address keeps
abbrev pub path_kept : Option (List ℕ) → Option (List ℕ)
path_kept None = None
path_kept (Some path) = if nat_le (length path) MAX_PATH_BYTES then Some path else None
