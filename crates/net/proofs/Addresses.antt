-- What texts name.
use Rattle.std.proofs.Common.{◌≡◌, refl, ℕ, List, Bool, true, false}
use Rattle.std.specs.Prelude.{if◌then◌else◌}
use Rattle.std.specs.Net.Addr.{ipv6_segments, low_octets}
use Rattle.std.specs.Net.Grammar.{IsSocketText}
use Rattle.std.specs.Net.Socket.{v6_ip, v6_port, v6_scope_id}
use Rattle.std.specs.declared.net.socket_addr.SocketAddr.{SocketAddr}
use Rattle.std.specs.declared.net.socket_addr.SocketAddr.TheVariants as at
use Rattle.readiness.specs.Peers.{is_mapped, tcp_addr}
use Rattle.readiness.specs.declared.addr.Addr.TheVariants as addr
use Rattle.net.specs.Address.{Names, NamesNoPath, NamesNoPort, NamesNothing}

-- a text that names neither a path nor a port names nothing
pub names_nothing : (text : List ℕ) → NamesNoPath text → NamesNoPort text → NamesNothing text
names_nothing text no_path no_port (addr.Unix path) named = no_path path named
names_nothing text no_path no_port (addr.Tcp bytes port) named = no_port named.0 named.1
names_nothing text no_path no_port (addr.Tcp6 ip scope port) named = no_port named.0 named.1

-- a text that spells an address with a port names it
pub names_port : (text : List ℕ) (socket : SocketAddr) → IsSocketText text socket → Names text (tcp_addr socket)
names_port text (at.V4 a) spelled = (at.V4 a, spelled, refl)
names_port text (at.V6 a) spelled = by_test (is_mapped (ipv6_segments (v6_ip a))) refl
  where
    by_test : (mapped : Bool) → is_mapped (ipv6_segments (v6_ip a)) ≡ mapped
        → Names text (if mapped then addr.Tcp (low_octets (v6_ip a)) (v6_port a) else addr.Tcp6 (v6_ip a) (v6_scope_id a) (v6_port a))
    by_test true e = (at.V6 a, spelled, rw e refl)
    by_test false e = (at.V6 a, spelled, rw e refl)
