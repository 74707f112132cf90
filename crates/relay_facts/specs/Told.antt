-- Who a client is that has said it by a header of the PROXY protocol.
use Rattle.std.specs.Prelude.{◌≡◌, ℕ, Option, Some}
use Rattle.std.specs.Net.Addr.{ipv4_octets, IsCanonicalOf}
use Rattle.std.specs.declared.net.ip_addr.IpAddr.{IpAddr}
use Rattle.std.specs.declared.net.ip_addr.IpAddr.TheVariants as ip
use Rattle.std.specs.declared.net.ipv6_addr.Ipv6Addr.{Ipv6Addr}
use Rattle.proxy_header.specs.declared.header.Header.{Header}
use Rattle.proxy_header.specs.declared.header.Header.TheVariants.{V4, V6}
use Rattle.relay_admin.specs.declared.rules.addr.Addr.{Addr}
use Rattle.relay_admin.specs.declared.rules.addr.Addr.TheVariants as addr
use Rattle.relay_facts.specs.declared.connection_facts.Acceptance.{Acceptance}
use Rattle.relay_facts.specs.declared.header.AcceptedAt.{AcceptedAt}
use Rattle.relay_facts.specs.declared.header.AcceptedAt.TheVariants as accepted

-- the address of a client with this IP address and this port
abbrev pub client_by : IpAddr → ℕ → Addr
client_by (ip.V4 own) port = addr.Tcp (ipv4_octets own) port
client_by (ip.V6 own) port = addr.Tcp6 own 0 port

-- the address at which a client was accepted, with this IP address and this port
abbrev pub accepted_by : IpAddr → ℕ → AcceptedAt
accepted_by (ip.V4 own) port = accepted.Tcp (ipv4_octets own) port
accepted_by (ip.V6 own) port = accepted.Tcp6 own port

-- a client is there, or was accepted there, by IPv6; an IPv4-mapped address is the IPv4 address in it
abbrev pub IsAtV6 : {A : Type 0} → (IpAddr → ℕ → A) → Ipv6Addr → ℕ → A → Type 0
IsAtV6 at own port found = (canonical : IpAddr) × IsCanonicalOf own canonical × (found ≡ at canonical port)

-- a client of whose socket this is known is this one, once its header has said that. A header without
-- addresses, and one with names of Unix sockets, leaves what is known of the socket
abbrev pub IsClientTold : Header → (own told : Option Addr) → Type 0
IsClientTold (V4 ends) own told = told ≡ Some (client_by (ip.V4 ends.source) ends.source_port)
IsClientTold (V6 ends) own told =
    (source : Addr) × IsAtV6 client_by ends.source ends.source_port source × (told ≡ Some source)
IsClientTold other own told = told ≡ own

-- the same of where it was accepted
abbrev pub IsAcceptedTold : Header → (own told : Option AcceptedAt) → Type 0
IsAcceptedTold (V4 ends) own told = told ≡ Some (accepted_by (ip.V4 ends.destination) ends.destination_port)
IsAcceptedTold (V6 ends) own told =
    (at : AcceptedAt) × IsAtV6 accepted_by ends.destination ends.destination_port at × (told ≡ Some at)
IsAcceptedTold other own told = told ≡ own

-- a client that was accepted says this by its header: its address and the one at which it was accepted are
-- those of the header, and all else is as it was
pub record IsToldBy (header : Header) (own told : Acceptance) : Type 0 where
  pub client : IsClientTold header own.client told.client
  pub accepted_at : IsAcceptedTold header own.accepted_at told.accepted_at
  pub kept : told ≡ record own { client = told.client; accepted_at = told.accepted_at }
