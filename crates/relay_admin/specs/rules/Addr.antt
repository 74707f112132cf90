-- Addresses, and the one text of each.
use Rattle.std.specs.Prelude.{◌≡◌, ◌==◌, ◌<◌, ℕ, Bool, true, false, ◌&&◌, List, [], ◌∷◌, ◌++◌}
use Rattle.std.specs.Prelude.{length, nat_le, slice_index, codes}
use Rattle.std.specs.Fmt.{decimal}
use Rattle.std.specs.List.{list_all}
use Rattle.std.specs.Net.Addr.{ipv6_segments}
use Rattle.std.specs.Net.Text.{ipv6_text, scope_text}
use Rattle.std.specs.Str.{bytes_eq}
use Rattle.relay_admin.specs.declared.rules.addr.Addr.{Addr}
use Rattle.relay_admin.specs.declared.rules.addr.TheConstants.{MAX_PATH_BYTES}
use Rattle.relay_admin.specs.declared.rules.addr.Addr.TheVariants as variant

-- the four numbers of an IPv4 address and a port; the eight segments of an IPv6 address, its scope, 0 for
-- none, and a port; or a path
pub data Address : Type 0 where
  tcp : ℕ → ℕ → ℕ → ℕ → ℕ → Address
  tcp6 : List ℕ → ℕ → ℕ → Address
  unix : List ℕ → Address

-- the byte "."
abbrev pub dot : ℕ
dot = 46

-- the byte ":"
abbrev pub colon : ℕ
colon = 58

-- the test holds of the first byte
abbrev pub first_passes : (ℕ → Bool) → List ℕ → Bool
first_passes test [] = false
first_passes test (byte ∷ bytes) = test byte

-- a byte from "!" to "~"
abbrev pub is_visible : ℕ → Bool
is_visible byte = nat_le 33 byte && nat_le byte 126

-- visible bytes, as many as a path may have, the first "/"
abbrev pub is_path : List ℕ → Bool
is_path bytes =
    first_passes (λ byte. byte == 47) bytes && list_all is_visible bytes && nat_le
    (length bytes) MAX_PATH_BYTES

-- what a rules file names: four bytes and a port from 1, or a path, and nothing of IPv6
abbrev pub IsAddress : Address → Type 0
IsAddress (tcp a b c d port) =
    (a < 256) × (b < 256) × (c < 256) × (d < 256) × (0 < port) × (port < 65536)
IsAddress (tcp6 ip scope port) = ⊥
IsAddress (unix path) = is_path path ≡ true

-- both addresses are one
abbrev pub same_address : Address → Address → Bool
same_address (tcp a b c d port) (tcp e f g h other) =
    (a == e) && (b == f) && (c == g) && (d == h) && (port == other)
same_address (tcp6 ip scope port) (tcp6 other_ip other_scope other_port) =
    bytes_eq ip other_ip && (scope == other_scope) && (port == other_port)
same_address (unix path) (unix other) = bytes_eq path other
same_address _ _ = false

-- "tcp:", the four numbers with dots between them, a colon and the port; of IPv6 the address in brackets,
-- with "%" and its scope behind it, if it has one; or "unix:" and the path
abbrev pub address_text : Address → List ℕ
address_text (tcp a b c d port) =
    codes "tcp" ++ colon ∷ (decimal a ++ dot
    ∷ (decimal b ++ dot ∷ (decimal c ++ dot ∷ (decimal d ++ colon ∷ decimal port))))
address_text (tcp6 ip scope port) =
    codes "tcp:[" ++ (ipv6_text ip ++ (scope_text scope ++ (codes "]:" ++ decimal port)))
address_text (unix path) = codes "unix" ++ colon ∷ path

-- the address that a value of the program holds
abbrev pub address_of : Addr → Address
address_of (variant.Tcp bytes port) =
    tcp (slice_index bytes 0) (slice_index bytes 1) (slice_index bytes 2) (slice_index bytes 3) port
address_of (variant.Tcp6 ip scope port) = tcp6 (ipv6_segments ip) scope port
address_of (variant.Unix path) = unix path.bytes
