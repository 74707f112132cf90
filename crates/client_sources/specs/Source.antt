-- Of whom a client is, and where its source may stand.
use Rattle.std.specs.Prelude.{◌==◌, ◌*◌, ◌/◌, ◌%◌, ◌^◌, ℕ, Bool, false}
use Rattle.std.specs.Net.Addr.{ipv4_bits, ipv6_bits}
use Rattle.std.specs.declared.net.ip_addr.IpAddr.{IpAddr}
use Rattle.std.specs.declared.net.ip_addr.IpAddr.TheVariants as ip
use Rattle.client_sources.specs.declared.source.Source.{Source}
use Rattle.client_sources.specs.declared.source.Source.TheVariants.{V4, V6}

-- the source of an IPv4 address is this address, and that of an IPv6 address are its first 64 bits
abbrev pub client_source : IpAddr → Source
client_source (ip.V4 address) = V4 (ipv4_bits address)
client_source (ip.V6 address) = V6 (ipv6_bits address / 2 ^ 64)

-- both are one source
abbrev pub same_source : Source → Source → Bool
same_source (V4 one) (V4 other) = one == other
same_source (V6 one) (V6 other) = one == other
same_source one other = false

-- the number of a source
abbrev pub source_bits : Source → ℕ
source_bits (V4 bits) = bits
source_bits (V6 bits) = bits

-- the group of places in which a source may stand, of 1,024
abbrev pub source_group : Source → ℕ
source_group source = source_bits source * 11400714819323198485 % 2 ^ 64 / 2 ^ 54
