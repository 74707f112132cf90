-- IP addresses as functions of their texts.
use Rattle.std.specs.Prelude.{ℕ, Bool, List, [], ◌∷◌, take, Option, Some, None}
use Rattle.std.specs.Str.{bytes_eq}
use Rattle.std.specs.Net.Addr.{ipv4_octets, ipv6_segments}
use Rattle.std.specs.Net.Reader.{read_ipv4, read_ipv6, whole_value}
use Rattle.std.specs.declared.net.ip_addr.IpAddr.{IpAddr}
use Rattle.std.specs.declared.net.ip_addr.IpAddr.TheVariants as variant

-- four octets, or eight segments
pub data Ip : Type 0 where
  v4 : List ℕ → Ip
  v6 : List ℕ → Ip

-- the address that a value of the program holds
abbrev pub ip_view : IpAddr → Ip
ip_view (variant.V4 address) = v4 (ipv4_octets address)
ip_view (variant.V6 address) = v6 (ipv6_segments address)

-- the four octets that a text spells
unfoldable pub ipv4_at : List ℕ → Option (List ℕ)
ipv4_at text = whole_value (read_ipv4 text)

-- the eight segments that a text spells
unfoldable pub ipv6_at : List ℕ → Option (List ℕ)
ipv6_at text = whole_value (read_ipv6 text)

-- the IPv4 address, or else the IPv6 address
abbrev pub of_either : Option (List ℕ) → Option (List ℕ) → Option Ip
of_either (Some octets) other = Some (v4 octets)
of_either None (Some segments) = Some (v6 segments)
of_either None None = None

-- the address that a text spells
unfoldable pub ip_at : List ℕ → Option Ip
ip_at text = of_either (ipv4_at text) (ipv6_at text)

-- the segments are those of an IPv4-mapped address
abbrev pub is_mapped : List ℕ → Bool
is_mapped segments = bytes_eq (take 6 segments) (0 ∷ 0 ∷ 0 ∷ 0 ∷ 0 ∷ 0xffff ∷ [])
