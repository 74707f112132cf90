-- Networks, their texts, and who is let in.
use Rattle.std.specs.Prelude.{◌≡◌, ◌-◌, ◌/◌, ◌^◌, ◌≤◌, ◌⊎◌, ℕ, List, [], ◌∷◌, ◌++◌, Any, Option, Some, None}
use Rattle.std.specs.Net.Addr.{ipv4_bits, ipv4_octets, ipv6_bits, ipv6_segments, IsCanonicalOf}
use Rattle.std.specs.Net.Grammar.{IsIpv4Text, IsIpv6Text}
use Rattle.std.specs.declared.net.ipv4_addr.Ipv4Addr.{Ipv4Addr}
use Rattle.std.specs.declared.net.ipv6_addr.Ipv6Addr.{Ipv6Addr}
use Rattle.std.specs.declared.net.ip_addr.IpAddr.{IpAddr}
use Rattle.std.specs.declared.net.ip_addr.IpAddr.TheVariants as Ip
use Rattle.stream_base.specs.Lines.{Lacks}
use Rattle.config_values.specs.Ip as ip
use Rattle.config_values.specs.Ip.{ip_at}
use Rattle.text_reading.specs.Reading.{◌>>=◌, SpellsNumber, number_within, split_at_first}
use Rattle.client_nets.specs.declared.net.Net.{Net}
use Rattle.client_nets.specs.declared.net.Net.TheVariants.{V4, V6}

-- the address begins with so many bits of the first
abbrev pub IsInV4 : Ipv4Addr → ℕ → Ipv4Addr → Type 0
IsInV4 first bits address =
    ipv4_bits address / 2 ^ (32 - bits) ≡ ipv4_bits first / 2 ^ (32 - bits)

-- the same over IPv6
abbrev pub IsInV6 : Ipv6Addr → ℕ → Ipv6Addr → Type 0
IsInV6 first bits address =
    ipv6_bits address / 2 ^ (128 - bits) ≡ ipv6_bits first / 2 ^ (128 - bits)

-- the network has the address; one of the other family it hasn't
abbrev pub IsIn : Net → IpAddr → Type 0
IsIn (V4 first bits) (Ip.V4 address) = IsInV4 first bits address
IsIn (V6 first bits) (Ip.V6 address) = IsInV6 first bits address
IsIn _ _ = ⊥

-- the byte "/"
abbrev pub slash : ℕ
slash = 47

-- an address and a number of bits spell the network
abbrev pub SpellsParts : List ℕ → List ℕ → Net → Type 0
SpellsParts address bits (V4 first n) = IsIpv4Text address first × SpellsNumber 0 32 bits n
SpellsParts address bits (V6 first n) = IsIpv6Text address first × SpellsNumber 0 128 bits n

-- an address alone spells it
abbrev pub SpellsAlone : List ℕ → Net → Type 0
SpellsAlone text (V4 first n) = IsIpv4Text text first × (n ≡ 32)
SpellsAlone text (V6 first n) = IsIpv6Text text first × (n ≡ 128)

-- an address without a slash, and behind a slash the bits; or an address alone
abbrev pub SpellsNet : List ℕ → Net → Type 0
SpellsNet text net =
    ((address bits : List ℕ) × (text ≡ address ++ slash ∷ bits) × Lacks slash address
    × SpellsParts address bits net)
    ⊎ (Lacks slash text × SpellsAlone text net)

-- ---- The same as a function of the text

-- a network: the octets or the segments of an address, and how many of its bits count
pub data Network : Type 0 where
  v4 : List ℕ → ℕ → Network
  v6 : List ℕ → ℕ → Network

-- the network that a value of the program is
abbrev pub network_of : Net → Network
network_of (V4 first bits) = v4 (ipv4_octets first) bits
network_of (V6 first bits) = v6 (ipv6_segments first) bits

-- the network of an address and the text of a number of bits
abbrev pub with_bits : ip.Ip → List ℕ → Option Network
with_bits (ip.v4 octets) bits = number_within 0 32 bits >>= λ n. Some (v4 octets n)
with_bits (ip.v6 segments) bits = number_within 0 128 bits >>= λ n. Some (v6 segments n)

-- the network of an address alone
abbrev pub whole : ip.Ip → Network
whole (ip.v4 octets) = v4 octets 32
whole (ip.v6 segments) = v6 segments 128

-- the network of two texts, which stood on both sides of a slash
unfoldable pub parts_at : List ℕ → List ℕ → Option Network
parts_at address bits = ip_at address >>= λ found. with_bits found bits

-- the network of the text of an address
unfoldable pub alone_at : List ℕ → Option Network
alone_at text = ip_at text >>= λ found. Some (whole found)

-- either, by where the slash stands
abbrev pub by_slash : List ℕ → Option (List ℕ × List ℕ) → Option Network
by_slash text (Some parts) = parts_at parts.0 parts.1
by_slash text None = alone_at text

-- the network that a text spells
unfoldable pub net_at : List ℕ → Option Network
net_at text = by_slash text (split_at_first slash text)

-- ---- Who is let in

-- a list has the address
abbrev pub IsListed : List Net → IpAddr → Type 0
IsListed nets address = Any (λ (net : Net). IsIn net address) nets

-- the address as it is looked up: an IPv4-mapped one is the IPv4 address in it
abbrev pub IsLookedUpAs : IpAddr → IpAddr → Type 0
IsLookedUpAs (Ip.V4 address) found = found ≡ Ip.V4 address
IsLookedUpAs (Ip.V6 address) found = IsCanonicalOf address found

-- no denied network has the address, and an allowed one has it, where any is allowed by name
pub record IsAdmitted (allow deny : List Net) (address : IpAddr) : Type 0 where
  pub not_denied : IsListed deny address → ⊥
  pub allowed : (allow ≡ []) ⊎ IsListed allow address
