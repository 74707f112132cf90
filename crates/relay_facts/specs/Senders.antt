-- Which clients begin with a header of the PROXY protocol.
use Rattle.std.specs.Prelude.{◌≡◌, ℕ, List, [], Option, Some, None, option_map}
use Rattle.std.specs.Arc.{arc_value}
use Rattle.std.specs.Net.Addr.{ipv4_octets, IsCanonicalOf}
use Rattle.std.specs.declared.net.ip_addr.IpAddr.{IpAddr}
use Rattle.std.specs.declared.net.ip_addr.IpAddr.TheVariants as ip
use Rattle.std.specs.declared.net.ipv4_addr.Ipv4Addr.{Ipv4Addr}
use Rattle.std.specs.declared.net.ipv6_addr.Ipv6Addr.{Ipv6Addr}
use Rattle.client_nets.specs.Net.{IsListed}
use Rattle.client_nets.specs.declared.net.Net.{Net}
use Rattle.relay_admin.specs.declared.rules.addr.Addr.{Addr}
use Rattle.relay_admin.specs.declared.rules.addr.Addr.TheVariants as addr
use Rattle.relay_facts.specs.Acceptance.{said_then}
use Rattle.relay_facts.specs.declared.connection_facts.Acceptance.{Acceptance}
use Rattle.relay_facts.specs.declared.senders.Senders.{Senders}

-- the networks of a list; without one there are none
abbrev pub nets_with : Option Senders → List Net
nets_with None = []
nets_with (Some list) = list.all.items

-- the list that stood at an accept, if its rule had one
abbrev pub senders_at : Acceptance → Option Senders
senders_at acceptance = option_map arc_value (said_then acceptance).senders

-- one of these networks has the IPv4 address with these bytes
abbrev pub ListsBytes : List Net → List ℕ → Type 0
ListsBytes nets bytes = (address : Ipv4Addr) × (ipv4_octets address ≡ bytes) × IsListed nets (ip.V4 address)

-- one of them has the IPv6 address; an IPv4-mapped one is looked up as the IPv4 address in it
abbrev pub ListsV6 : List Net → Ipv6Addr → Type 0
ListsV6 nets address = (found : IpAddr) × IsCanonicalOf address found × IsListed nets found

-- the client of these networks is to begin with a header: one of them has its address, whatever its port
-- and its scope. One of a Unix socket never is
abbrev pub IsSender : List Net → Option Addr → Type 0
IsSender nets (Some (addr.Tcp bytes port)) = ListsBytes nets bytes
IsSender nets (Some (addr.Tcp6 address scope port)) = ListsV6 nets address
IsSender nets other = ⊥

-- the client that was accepted is to say first who it is
abbrev pub IsAwaited : Acceptance → Type 0
IsAwaited acceptance = IsSender (nets_with (senders_at acceptance)) acceptance.client
