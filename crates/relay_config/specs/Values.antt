-- Values of a configuration: what their texts spell.
use Rattle.std.specs.Prelude.{◌==◌, ◌%◌, ℕ, Bool, false, not, ◌&&◌, ◌||◌, List, [], ◌∷◌, length, nat_le, Option, Some, None, codes, option_map, option_and_then, if◌then◌else◌}
use Rattle.std.specs.List.{list_all}
use Rattle.std.specs.Str.{bytes_eq}
use Rattle.config_values.specs.Addr.{Address, address_at, name, unix, v4, v6}
use Rattle.config_values.specs.Ip as ip
use Rattle.config_values.specs.Ip.{Ip, ip_at, is_mapped}
use Rattle.config_values.specs.Time.{time_at}
use Rattle.target_pick.specs.declared.picking.Balance.{Balance}
use Rattle.target_pick.specs.declared.picking.Balance.TheVariants as balance
use Rattle.relay_config.specs.declared.log.Format.{Format}
use Rattle.relay_config.specs.declared.log.Format.TheVariants as format
use Rattle.relay_config.specs.declared.proxy.Version.{Version}
use Rattle.relay_config.specs.declared.proxy.Version.TheVariants as version
use Rattle.relay_config.specs.declared.spelled.TheConstants.{MAX_KEEPALIVE_MS}
use Rattle.relay_config.specs.declared.rule_name.TheConstants.{MAX_NAME_BYTES}

-- a time, or "never", which is none
abbrev pub time_or_never : List ℕ → Option (Option ℕ)
time_or_never text = if bytes_eq text (codes "never") then Some None else option_map (λ (ms : ℕ). Some ms) (time_at text)

-- a time that the system takes for keepalives: whole seconds, not too many
abbrev pub keepalive : ℕ → Option (Option ℕ)
keepalive ms = if (ms % 1000 == 0) && nat_le ms MAX_KEEPALIVE_MS then Some (Some ms) else None

-- such a time, or "never", which is none
abbrev pub keepalive_at : List ℕ → Option (Option ℕ)
keepalive_at text = if bytes_eq text (codes "never") then Some None else option_and_then keepalive (time_at text)

-- an address that isn't IPv4-mapped
abbrev pub unmapped : Ip → Option Ip
unmapped (ip.v4 octets) = Some (ip.v4 octets)
unmapped (ip.v6 segments) = if is_mapped segments then None else Some (ip.v6 segments)

-- such an address, by its text
abbrev pub source_at : List ℕ → Option Ip
source_at text = option_and_then unmapped (ip_at text)

-- the word of a version of the PROXY protocol
abbrev pub version_at : List ℕ → Option Version
version_at text =
    if bytes_eq text (codes "v1") then Some version.V1
    else if bytes_eq text (codes "v2") then Some version.V2
    else None

-- the word of a way to pick targets
abbrev pub balance_at : List ℕ → Option Balance
balance_at text =
    if bytes_eq text (codes "round-robin") then Some balance.RoundRobin
    else if bytes_eq text (codes "least-connections") then Some balance.LeastConnections
    else if bytes_eq text (codes "first") then Some balance.First
    else if bytes_eq text (codes "source") then Some balance.Source
    else None

-- the word of a form of the log
abbrev pub format_at : List ℕ → Option Format
format_at text =
    if bytes_eq text (codes "text") then Some format.Text
    else if bytes_eq text (codes "json") then Some format.Json
    else None

-- no zero byte
abbrev pub is_path_byte : ℕ → Bool
is_path_byte byte = not (byte == 0)

-- some such bytes, at most so many
abbrev pub is_file_path : ℕ → List ℕ → Bool
is_file_path most path = nat_le 1 (length path) && nat_le (length path) most && list_all is_path_byte path

-- a file's path of at most so many bytes
abbrev pub file_path : ℕ → List ℕ → Option (List ℕ)
file_path most text = if is_file_path most text then Some text else None

-- a to z
abbrev pub is_letter : ℕ → Bool
is_letter byte = nat_le 97 byte && nat_le byte 122

-- a to z, 0 to 9 or "-"
abbrev pub is_name_byte : ℕ → Bool
is_name_byte byte = is_letter byte || (nat_le 48 byte && nat_le byte 57) || (byte == 45)

-- the first byte is a letter
abbrev pub begins_with_letter : List ℕ → Bool
begins_with_letter [] = false
begins_with_letter (byte ∷ bytes) = is_letter byte

-- such bytes, as many as a name may have, the first a letter
abbrev pub is_rule_name : List ℕ → Bool
is_rule_name bytes = begins_with_letter bytes && list_all is_name_byte bytes && nat_le (length bytes) MAX_NAME_BYTES

-- a rule's name
abbrev pub rule_name : List ℕ → Option (List ℕ)
rule_name text = if is_rule_name text then Some text else None

-- an address at which the system can listen: no name
abbrev pub listener : Address → Option Address
listener (v4 ip port) = Some (v4 ip port)
listener (v6 ip scope port) = Some (v6 ip scope port)
listener (unix path) = Some (unix path)
listener (name host port) = None

-- such an address, by its text
abbrev pub listener_at : List ℕ → Option Address
listener_at text = option_and_then listener (address_at text)
