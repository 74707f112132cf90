-- With which header of the PROXY protocol a connection to a target begins.
use Rattle.std.specs.Prelude.{ℕ, List, [], Option, Some, None}
use Rattle.std.specs.declared.net.ipv4_addr.Ipv4Addr.{Ipv4Addr}
use Rattle.proxy_header.specs.HeaderWriting.{version1_bytes, version2_bytes}
use Rattle.proxy_header.specs.declared.header.Header.{Header}
use Rattle.proxy_header.specs.declared.header.Header.TheVariants.{Local, V4, V6}
use Rattle.relay_admin.specs.declared.rules.addr.Addr.{Addr}
use Rattle.relay_admin.specs.declared.rules.addr.Addr.TheVariants as addr
use Rattle.relay_config.specs.declared.proxy.Version.{Version}
use Rattle.relay_config.specs.declared.proxy.Version.TheVariants as version
use Rattle.relay_facts.specs.Acceptance.{said_then}
use Rattle.relay_facts.specs.declared.connection_facts.Acceptance.{Acceptance}
use Rattle.relay_facts.specs.declared.header.AcceptedAt.{AcceptedAt}
use Rattle.relay_facts.specs.declared.header.AcceptedAt.TheVariants as accepted

-- the address of IPv4 with these bytes
abbrev pub ipv4_of : List ℕ → Ipv4Addr
ipv4_of bytes = record { octets = bytes }

-- the header of a client: its source is where the client is, its destination where it was accepted,
-- without the scopes of IPv6; where these aren't two addresses of one family, it says nothing
abbrev pub header_of : (source : Option Addr) → (destination : Option AcceptedAt) → Header
header_of (Some (addr.Tcp bytes port)) (Some (accepted.Tcp own own_port)) = V4 (record {
  source = ipv4_of bytes;
  source_port = port;
  destination = ipv4_of own;
  destination_port = own_port;
})
header_of (Some (addr.Tcp6 ip scope port)) (Some (accepted.Tcp6 own own_port)) = V6 (record {
  source = ip;
  source_port = port;
  destination = own;
  destination_port = own_port;
})
header_of source destination = Local

-- a header in a version
abbrev pub header_bytes : Version → Header → List ℕ
header_bytes version.V1 header = version1_bytes header
header_bytes version.V2 header = version2_bytes header

-- in this version, if in one
abbrev pub bytes_in : Option Version → Header → List ℕ
bytes_in None header = []
bytes_in (Some version) header = header_bytes version header

-- what the target of a client gets before any byte of the client's: the client's header in the version
-- of its rule, and nothing where its rule has none
abbrev pub first_bytes : Acceptance → List ℕ
first_bytes acceptance =
    bytes_in (said_then acceptance).header (header_of acceptance.client acceptance.accepted_at)
