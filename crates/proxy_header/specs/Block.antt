-- Version 2: 16 bytes of a head, then a block of addresses. A field is named by its bytes' places.
use Rattle.std.specs.Prelude.{◌≡◌, ◌≤◌, ◌==◌, ◌+◌, ◌*◌, ℕ, Bool, true, ◌||◌, List, [], ◌∷◌, length}
use Rattle.std.specs.Prelude.{take, slice_index, slice_range, Option, Some, None, nat_lt}
use Rattle.std.specs.Prelude.{if◌then◌else◌}
use Rattle.std.specs.Net.Addr.{ipv4_octets, ipv6_segments, segments_of}
use Rattle.proxy_header.specs.declared.fault.HeaderFault.{HeaderFault}
use Rattle.proxy_header.specs.declared.fault.HeaderFault.TheVariants as faults
use Rattle.proxy_header.specs.declared.header.EndsV4.{EndsV4}
use Rattle.proxy_header.specs.declared.header.EndsV6.{EndsV6}
use Rattle.proxy_header.specs.declared.header.Header.{Header}
use Rattle.proxy_header.specs.declared.header.Header.TheVariants.{Local, Unknown, V4, V6, Unix}
use Rattle.proxy_header.specs.declared.header.Names.{Names}

-- what each header of version 2 begins with
abbrev pub signature : List ℕ
signature = 13 ∷ 10 ∷ 13 ∷ 10 ∷ 0 ∷ 13 ∷ 10 ∷ 81 ∷ 85 ∷ 73 ∷ 84 ∷ 10 ∷ []

-- the commands LOCAL and PROXY, each with the version before it
abbrev pub local_command : ℕ
local_command = 0x20

-- a connection is forwarded
abbrev pub proxy_command : ℕ
proxy_command = 0x21

-- streams over IPv4, over IPv6 and over Unix sockets
abbrev pub ipv4_stream : ℕ
ipv4_stream = 0x11

-- over IPv6
abbrev pub ipv6_stream : ℕ
ipv6_stream = 0x21

-- over Unix sockets
abbrev pub unix_stream : ℕ
unix_stream = 0x31

-- what the sender can't tell, and the three kinds of datagrams
abbrev pub is_unspecified : ℕ → Bool
is_unspecified family = (family == 0) || (family == 0x12) || (family == 0x22) || (family == 0x32)

-- a family of the public text
abbrev pub is_family : ℕ → Bool
is_family family =
    is_unspecified family || (family == ipv4_stream) || (family == ipv6_stream)
    || (family == unix_stream)

-- the bytes that the addresses of a family take
abbrev pub least_block : ℕ → ℕ
least_block family =
    if family == ipv4_stream then 12
    else (if family == ipv6_stream then 36 else (if family == unix_stream then 216 else 0))

-- the number of two bytes, the high one first
abbrev pub number_at : List ℕ → ℕ → ℕ
number_at bytes at = 256 * slice_index bytes at + slice_index bytes (at + 1)

-- the command's byte
abbrev pub command_in : List ℕ → ℕ
command_in bytes = slice_index bytes 12

-- the byte of family and transport
abbrev pub family_in : List ℕ → ℕ
family_in bytes = slice_index bytes 13

-- how many bytes follow the head
abbrev pub block_size : List ℕ → ℕ
block_size bytes = number_at bytes 14

-- the first fault of a head with this command, this family and a block of so many bytes
unfoldable pub head_fault : ℕ → ℕ → ℕ → Option HeaderFault
head_fault command family size =
    if command == local_command
    then (if nat_lt 520 size then Some faults.TooLong else None)
    else (if command == proxy_command
    then (if is_family family
    then (if nat_lt 520 size then Some faults.TooLong
    else (if nat_lt size (least_block family) then Some faults.TooShort else None))
    else Some faults.Family)
    else Some faults.Command)

-- a whole head is there
pub record IsHead (bytes : List ℕ) : Type 0 where
  pub there : 16 ≤ length bytes
  pub signed : take 12 bytes ≡ signature

-- 12 bytes: both addresses, then both ports
pub record HasEndsV4 (block : List ℕ) (ends : EndsV4) : Type 0 where
  pub source_is : slice_range block 0 4 ≡ ipv4_octets ends.source
  pub destination_is : slice_range block 4 8 ≡ ipv4_octets ends.destination
  pub source_port_is : number_at block 8 ≡ ends.source_port
  pub destination_port_is : number_at block 10 ≡ ends.destination_port

-- 36 bytes: the same with addresses of IPv6
pub record HasEndsV6 (block : List ℕ) (ends : EndsV6) : Type 0 where
  pub source_is : segments_of (slice_range block 0 16) ≡ ipv6_segments ends.source
  pub destination_is : segments_of (slice_range block 16 32) ≡ ipv6_segments ends.destination
  pub source_port_is : number_at block 32 ≡ ends.source_port
  pub destination_port_is : number_at block 34 ≡ ends.destination_port

-- 216 bytes: the names of two Unix sockets
pub record HasNames (block : List ℕ) (names : Names) : Type 0 where
  pub source_is : slice_range block 0 108 ≡ names.source
  pub destination_is : slice_range block 108 216 ≡ names.destination

-- a command, a family and a block say this
abbrev pub SaysBlock : ℕ → ℕ → List ℕ → Header → Type 0
SaysBlock command family block Local = command ≡ local_command
SaysBlock command family block Unknown =
    (command ≡ proxy_command) × (is_unspecified family ≡ true)
SaysBlock command family block (V4 ends) =
    (command ≡ proxy_command) × (family ≡ ipv4_stream) × HasEndsV4 block ends
SaysBlock command family block (V6 ends) =
    (command ≡ proxy_command) × (family ≡ ipv6_stream) × HasEndsV6 block ends
SaysBlock command family block (Unix names) =
    (command ≡ proxy_command) × (family ≡ unix_stream) × HasNames block names

-- the bytes begin with a header of version 2, of so many bytes, that says this
pub record IsVersion2 (bytes : List ℕ) (size : ℕ) (said : Header) : Type 0 where
  pub head : IsHead bytes
  pub good : head_fault (command_in bytes) (family_in bytes) (block_size bytes) ≡ None
  pub ends : size ≡ 16 + block_size bytes
  pub there : size ≤ length bytes
  pub says : SaysBlock (command_in bytes) (family_in bytes) (slice_range bytes 16 size) said
