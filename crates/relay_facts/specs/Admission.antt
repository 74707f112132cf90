-- Which clients the lists of a rule let in.
use Rattle.std.specs.Prelude.{◌≡◌, ⊤, ℕ, List, [], Option, Some, None, option_map}
use Rattle.std.specs.Arc.{arc_value}
use Rattle.std.specs.Net.Addr.{ipv4_octets, IsCanonicalOf}
use Rattle.std.specs.declared.net.ip_addr.IpAddr.{IpAddr}
use Rattle.std.specs.declared.net.ip_addr.IpAddr.TheVariants as ip
use Rattle.std.specs.declared.net.ipv4_addr.Ipv4Addr.{Ipv4Addr}
use Rattle.std.specs.declared.net.ipv6_addr.Ipv6Addr.{Ipv6Addr}
use Rattle.client_nets.specs.Net.{IsAdmitted}
use Rattle.client_nets.specs.declared.net.Net.{Net}
use Rattle.relay_admin.specs.declared.rules.addr.Addr.{Addr}
use Rattle.relay_admin.specs.declared.rules.addr.Addr.TheVariants as addr
use Rattle.relay_config.specs.declared.access.Access.{Access}
use Rattle.relay_facts.specs.Acceptance.{said_then}
use Rattle.relay_facts.specs.declared.connection_facts.Acceptance.{Acceptance}

-- the networks whose clients alone may connect, where there are any
abbrev pub allowed_by : Option Access → List Net
allowed_by None = []
allowed_by (Some access) = access.allow.items

-- the networks whose clients may not
abbrev pub denied_by : Option Access → List Net
denied_by None = []
denied_by (Some access) = access.deny.items

-- these lists admit the IPv4 address with these bytes
abbrev pub AdmitBytes : List Net → List Net → List ℕ → Type 0
AdmitBytes allow deny bytes =
    (address : Ipv4Addr) × (ipv4_octets address ≡ bytes) × IsAdmitted allow deny (ip.V4 address)

-- these lists admit the IPv6 address; an IPv4-mapped one they admit as the IPv4 address in it
abbrev pub AdmitV6 : List Net → List Net → Ipv6Addr → Type 0
AdmitV6 allow deny address =
    (found : IpAddr) × IsCanonicalOf address found × IsAdmitted allow deny found

-- these lists let the client in: they admit its address, whatever its port and its scope; or it came by a
-- Unix socket, of which lists of networks say nothing
abbrev pub LetIn : List Net → List Net → Option Addr → Type 0
LetIn allow deny (Some (addr.Tcp bytes port)) = AdmitBytes allow deny bytes
LetIn allow deny (Some (addr.Tcp6 address scope port)) = AdmitV6 allow deny address
LetIn allow deny other = ⊤

-- the lists that stood at its accept, if its rule had any
abbrev pub lists_in : Acceptance → Option Access
lists_in acceptance = option_map arc_value (said_then acceptance).access

-- lists let the client in; without any all are let in
abbrev pub LetInBy : Option Access → Option Addr → Type 0
LetInBy None client = ⊤
LetInBy (Some access) client = LetIn access.allow.items access.deny.items client

-- the lists of its rule let the client in
abbrev pub IsLetIn : Acceptance → Type 0
IsLetIn acceptance = LetInBy (lists_in acceptance) acceptance.client
