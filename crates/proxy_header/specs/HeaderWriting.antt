-- The bytes that are written for a header.
use Rattle.std.specs.Prelude.{◌≡◌, ◌/◌, ◌%◌, ◌<◌, ℕ, List, [], ◌∷◌, ◌++◌, length, All, codes}
use Rattle.std.specs.Net.Addr.{ipv4_octets, ipv6_octets, ipv6_segments, IsIpv4Addr, IsIpv6Addr}
use Rattle.std.specs.Net.Text.{ipv4_text, hex_groups_text}
use Rattle.proxy_header.specs.Block.{ipv4_stream, ipv6_stream, local_command, proxy_command, signature}
use Rattle.proxy_header.specs.Block.{unix_stream}
use Rattle.proxy_header.specs.Line.{ends_text}
use Rattle.proxy_header.specs.declared.header.Header.{Header}
use Rattle.proxy_header.specs.declared.header.Header.TheVariants.{Local, Unknown, V4, V6, Unix}

-- a number below 65,536 as two bytes, the high one first
abbrev pub two_bytes : ℕ → List ℕ
two_bytes n = (n / 256) ∷ (n % 256) ∷ []

-- the command of a header
abbrev pub command_of : Header → ℕ
command_of Local = local_command
command_of _ = proxy_command

-- its family and transport
abbrev pub family_of : Header → ℕ
family_of (V4 ends) = ipv4_stream
family_of (V6 ends) = ipv6_stream
family_of (Unix names) = unix_stream
family_of _ = 0

-- both addresses, then both ports
abbrev pub block_of : Header → List ℕ
block_of (V4 ends) =
    ipv4_octets ends.source
    ++ (ipv4_octets ends.destination ++ (two_bytes ends.source_port ++ two_bytes ends.destination_port))
block_of (V6 ends) =
    ipv6_octets ends.source
    ++ (ipv6_octets ends.destination ++ (two_bytes ends.source_port ++ two_bytes ends.destination_port))
block_of (Unix names) = names.source ++ names.destination
block_of _ = []

-- the signature, command, family, how long the block is, and the block
abbrev pub version2_bytes : Header → List ℕ
version2_bytes header =
    signature
    ++ (command_of header ∷ family_of header ∷ (two_bytes (length (block_of header)) ++ block_of header))

-- the line of a header, without its CR LF
abbrev pub version1_line : Header → List ℕ
version1_line (V4 ends) =
    codes "PROXY TCP4 "
    ++ ends_text (ipv4_text (ipv4_octets ends.source)) (ipv4_text (ipv4_octets ends.destination))
    ends.source_port ends.destination_port
version1_line (V6 ends) =
    codes "PROXY TCP6 "
    ++ ends_text (hex_groups_text (ipv6_segments ends.source))
    (hex_groups_text (ipv6_segments ends.destination)) ends.source_port ends.destination_port
version1_line _ = codes "PROXY UNKNOWN"

-- the line and its CR LF
abbrev pub version1_bytes : Header → List ℕ
version1_bytes header = version1_line header ++ 13 ∷ 10 ∷ []

-- what version 1 can say of it: it has neither LOCAL nor Unix sockets
abbrev pub said_by_version1 : Header → Header
said_by_version1 (V4 ends) = V4 ends
said_by_version1 (V6 ends) = V6 ends
said_by_version1 _ = Unknown

-- what the types of the program keep: addresses, ports and names of their sizes
abbrev pub IsHeader : Header → Type 0
IsHeader (V4 ends) = IsIpv4Addr ends.source × IsIpv4Addr ends.destination
    × (ends.source_port < 65536) × (ends.destination_port < 65536)
IsHeader (V6 ends) = IsIpv6Addr ends.source × IsIpv6Addr ends.destination
    × (ends.source_port < 65536) × (ends.destination_port < 65536)
IsHeader (Unix names) = (length names.source ≡ 108) × (length names.destination ≡ 108)
IsHeader _ = Unit {0}
