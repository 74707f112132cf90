-- Of whom clients are, and why there is no seat for one.
use Rattle.std.specs.Prelude.{◌≡◌, ℕ, Bool, true, false, List, Option, Some, None}
use Rattle.std.specs.Net.Addr.{ipv4_octets, IsCanonicalOf}
use Rattle.std.specs.declared.net.ip_addr.IpAddr.{IpAddr}
use Rattle.std.specs.declared.net.ip_addr.IpAddr.TheVariants as ip
use Rattle.std.specs.declared.net.ipv4_addr.Ipv4Addr.{Ipv4Addr}
use Rattle.std.specs.declared.net.ipv6_addr.Ipv6Addr.{Ipv6Addr}
use Rattle.client_sources.specs.Source.{client_source}
use Rattle.client_sources.specs.declared.limits.Refusal.{Refusal}
use Rattle.client_sources.specs.declared.limits.Refusal.TheVariants as refusal
use Rattle.client_sources.specs.declared.source.Source.{Source}
use Rattle.relay_admin.specs.declared.rules.addr.Addr.{Addr}
use Rattle.relay_admin.specs.declared.rules.addr.Addr.TheVariants as addr
use Rattle.relay_log.specs.declared.ended.Ended.{Ended}
use Rattle.relay_log.specs.declared.ended.Ended.TheVariants as how
use Rattle.relay_facts.specs.declared.rule_sources.NoSeat.{NoSeat}
use Rattle.relay_facts.specs.declared.rule_sources.NoSeat.TheVariants as unseated

-- the source of the IPv4 address with these bytes
abbrev pub IsSourceOfBytes : List ℕ → Source → Type 0
IsSourceOfBytes bytes source =
    (address : Ipv4Addr) × (ipv4_octets address ≡ bytes) × (source ≡ client_source (ip.V4 address))

-- the source of an IPv6 address; that of an IPv4-mapped one is that of the IPv4 address in it
abbrev pub IsSourceOfV6 : Ipv6Addr → Source → Type 0
IsSourceOfV6 address source = (found : IpAddr) × IsCanonicalOf address found × (source ≡ client_source found)

-- the source of a client, whatever its port and its scope; one of a Unix socket has none
abbrev pub IsSourceOf : Option Addr → Option Source → Type 0
IsSourceOf (Some (addr.Tcp bytes port)) (Some source) = IsSourceOfBytes bytes source
IsSourceOf (Some (addr.Tcp6 address scope port)) (Some source) = IsSourceOfV6 address source
IsSourceOf (Some (addr.Unix path)) None = Unit {0}
IsSourceOf None None = Unit {0}
IsSourceOf client source = ⊥

-- how it is told that there is no seat
abbrev pub how_unseated : NoSeat → Ended
how_unseated unseated.Full = how.SourceFull
how_unseated unseated.Rate = how.SourceRate
how_unseated unseated.Memory = how.NoMemory

-- what a table refuses
abbrev pub unseated_by : Refusal → NoSeat
unseated_by refusal.Full = unseated.Full
unseated_by refusal.Rate = unseated.Rate

-- a client wasn't let in for its source
abbrev pub is_for_source : Ended → Bool
is_for_source how.SourceFull = true
is_for_source how.SourceRate = true
is_for_source other = false
