-- Addresses, their texts, and the address that a text spells.
use Rattle.std.specs.Prelude.{◌≡◌, ◌==◌, ◌<◌, ◌^◌, ℕ, Bool, true, false, not, ◌&&◌, ◌||◌, List, [], ◌∷◌, ◌++◌}
use Rattle.std.specs.Prelude.{length, nat_le, slice_index, codes, Option, Some, None, if◌then◌else◌}
use Rattle.std.specs.Fmt.{decimal}
use Rattle.std.specs.List.{list_all}
use Rattle.std.specs.Str.{bytes_eq}
use Rattle.std.specs.Net.Addr.{ipv4_octets, ipv6_segments}
use Rattle.std.specs.Net.Text.{ipv4_text, ipv6_text, scope_text}
use Rattle.std.specs.declared.net.ipv6_addr.Ipv6Addr.{Ipv6Addr}
use Rattle.text_reading.specs.Reading.{◌>>=◌, number_within, split_at_first}
use Rattle.config_values.specs.HostName.{is_host_name}
use Rattle.config_values.specs.Ip.{ipv4_at, ipv6_at, is_mapped}
use Rattle.config_values.specs.declared.addr.Addr.{Addr}
use Rattle.config_values.specs.declared.addr.TheConstants.{MAX_PATH_BYTES}
use Rattle.config_values.specs.declared.addr.Addr.TheVariants as variant

-- four octets and a port; eight segments, a scope and a port; a path; a name and a port
pub data Address : Type 0 where
  v4 : List ℕ → ℕ → Address
  v6 : List ℕ → ℕ → ℕ → Address
  unix : List ℕ → Address
  name : List ℕ → ℕ → Address

-- the address that a value of the program holds
abbrev pub address_of : Addr → Address
address_of (variant.V4 ip port) = v4 (ipv4_octets ip) port
address_of (variant.V6 ip scope port) = v6 (ipv6_segments ip) scope port
address_of (variant.Unix path) = unix path.bytes
address_of (variant.Name host port) = name host.bytes port

-- both addresses are one
abbrev pub same_address : Address → Address → Bool
same_address (v4 ip port) (v4 other_ip other_port) = bytes_eq ip other_ip && (port == other_port)
same_address (v6 ip scope port) (v6 other_ip other_scope other_port) =
    bytes_eq ip other_ip && (scope == other_scope) && (port == other_port)
same_address (unix path) (unix other) = bytes_eq path other
same_address (name host port) (name other_host other_port) = bytes_eq host other_host && (port == other_port)
same_address _ _ = false

-- a byte from "!" to "~"
abbrev pub is_visible : ℕ → Bool
is_visible byte = nat_le 33 byte && nat_le byte 126

-- the first byte is "/"
abbrev pub begins_at_root : List ℕ → Bool
begins_at_root [] = false
begins_at_root (byte ∷ bytes) = byte == 47

-- visible bytes, as many as a path may have, the first "/"
abbrev pub is_path : List ℕ → Bool
is_path bytes = begins_at_root bytes && list_all is_visible bytes && nat_le (length bytes) MAX_PATH_BYTES

-- what a configuration may name: an IPv6 address that isn't IPv4-mapped, ports from 1 on, a path, a name
abbrev pub IsAddress : Address → Type 0
IsAddress (v4 ip port) = (length ip ≡ 4) × ((k : ℕ) → slice_index ip k < 2 ^ 8) × (0 < port) × (port < 2 ^ 16)
IsAddress (v6 ip scope port) = (length ip ≡ 8) × ((k : ℕ) → slice_index ip k < 2 ^ 16) × (is_mapped ip ≡ false)
    × (scope < 2 ^ 32) × (0 < port) × (port < 2 ^ 16)
IsAddress (unix path) = is_path path ≡ true
IsAddress (name host port) = (is_host_name host ≡ true) × (ipv4_at host ≡ None) × (0 < port) × (port < 2 ^ 16)

-- the text of an address
abbrev pub address_text : Address → List ℕ
address_text (v4 ip port) = codes "tcp:" ++ (ipv4_text ip ++ 58 ∷ decimal port)
address_text (v6 ip scope port) = codes "tcp:[" ++ (ipv6_text ip ++ (scope_text scope ++ (codes "]:" ++ decimal port)))
address_text (unix path) = codes "unix:" ++ path
address_text (name host port) = codes "tcp:" ++ (host ++ 58 ∷ decimal port)

-- ---- Reading an address from left to right

-- a port
unfoldable pub port_at : List ℕ → Option ℕ
port_at text = number_within 1 65535 text

-- an IPv6 address and its scope
abbrev pub scoped_of : Ipv6Addr × ℕ → List ℕ × ℕ
scoped_of scoped = (ipv6_segments scoped.0, scoped.1)

-- the scope behind "%"
abbrev pub with_scope : List ℕ → List ℕ → Option (List ℕ × ℕ)
with_scope address digits = do
  ip ← ipv6_at address
  scope ← number_within 1 0xffffffff digits
  Some (ip, scope)

-- an IPv6 address without a scope
abbrev pub without_scope : List ℕ → Option (List ℕ × ℕ)
without_scope address = do
  ip ← ipv6_at address
  Some (ip, 0)

-- either, by where "%" stands
abbrev pub by_percent : List ℕ → Option (List ℕ × List ℕ) → Option (List ℕ × ℕ)
by_percent text (Some parts) = with_scope parts.0 parts.1
by_percent text None = without_scope text

-- an IPv6 address, and behind "%" its scope
unfoldable pub scoped_at : List ℕ → Option (List ℕ × ℕ)
scoped_at text = by_percent text (split_at_first 37 text)

-- what stands behind "[": an address that isn't IPv4-mapped, "]:" and a port
unfoldable pub ipv6_at_port : List ℕ → Option Address
ipv6_at_port text = do
  parts ← split_at_first 93 text
  behind ← split_at_first 58 parts.1
  port ← port_at behind.1
  scoped ← scoped_at parts.0
  if not (length behind.0 == 0) || is_mapped scoped.0 then None else Some (v6 scoped.0 scoped.1 port)

-- an IPv4 address, or else a name
abbrev pub of_host : List ℕ → ℕ → Option (List ℕ) → Option Address
of_host host port (Some ip) = Some (v4 ip port)
of_host host port None = if is_host_name host then Some (name host port) else None

-- a host and its port
unfoldable pub host_at : List ℕ → Option Address
host_at text = do
  parts ← split_at_first 58 text
  port ← port_at parts.1
  of_host parts.0 port (ipv4_at parts.0)

-- the address behind "tcp:"
unfoldable pub tcp_at : List ℕ → Option Address
tcp_at [] = host_at []
tcp_at (byte ∷ text) = if byte == 91 then ipv6_at_port text else host_at (byte ∷ text)

-- the address behind "unix:"
unfoldable pub path_at : List ℕ → Option Address
path_at text = if is_path text then Some (unix text) else None

-- an address
unfoldable pub address_at : List ℕ → Option Address
address_at text = do
  kind ← split_at_first 58 text
  if bytes_eq kind.0 (codes "tcp") then tcp_at kind.1
      else if bytes_eq kind.0 (codes "unix") then path_at kind.1
      else None
