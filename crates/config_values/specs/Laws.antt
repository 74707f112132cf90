-- Laws of values and of their texts.
use Rattle.std.specs.Prelude.{◌≡◌, ◌↔◌, ◌<◌, ◌^◌, ℕ, List, length, slice_index, Some}
use Rattle.std.specs.Net.Grammar.{IsColonHex, IsDotted}
use Rattle.config_values.specs.Addr.{Address, IsAddress, address_at, address_text, name, unix, v4, v6}
use Rattle.config_values.specs.Ip.{ipv4_at, ipv6_at}
use Rattle.config_values.specs.Mode.{SpellsMode, mode_at}
use Rattle.config_values.specs.Rate.{SpellsRate, rate_at}
use Rattle.config_values.specs.Time.{SpellsTime, time_at}
use Rattle.config_values.specs.declared.rate.Rate.{Rate}

-- a time is read from a text that spells it, and from no other
abbrev pub TimesAreRead : Type 0
TimesAreRead = (text : List ℕ) (ms : ℕ) → (time_at text ≡ Some ms) ↔ SpellsTime text ms

-- so is a rate
abbrev pub RatesAreRead : Type 0
RatesAreRead = (text : List ℕ) (rate : Rate) → (rate_at text ≡ Some rate) ↔ SpellsRate text rate

-- so is a mode
abbrev pub ModesAreRead : Type 0
ModesAreRead = (text : List ℕ) (mode : ℕ) → (mode_at text ≡ Some mode) ↔ SpellsMode text mode

-- the octets of an IPv4 address are read from its dotted text, and from no other
abbrev pub DottedIsRead : Type 0
DottedIsRead = (text octets : List ℕ) → (ipv4_at text ≡ Some octets) ↔ IsDotted text octets

-- the segments of an IPv6 address are read from its texts, and from no others
abbrev pub ColonHexIsRead : Type 0
ColonHexIsRead = (text segments : List ℕ) → (ipv6_at text ≡ Some segments) ↔ IsColonHex text segments

-- four octets, or eight segments of 16 bits, as the program's types have them
abbrev pub HasWidths : Address → Type 0
HasWidths (v4 ip port) = (length ip ≡ 4) × ((k : ℕ) → slice_index ip k < 2 ^ 8)
HasWidths (v6 ip scope port) = (length ip ≡ 8) × ((k : ℕ) → slice_index ip k < 2 ^ 16)
HasWidths (unix path) = Unit {0}
HasWidths (name host port) = Unit {0}

-- what is read is an address that a configuration may name
abbrev pub AddressesAreRead : Type 0
AddressesAreRead = (text : List ℕ) (address : Address) → HasWidths address
    → address_at text ≡ Some address → IsAddress address

-- from the text of an address that a configuration may name this address is read
abbrev pub AddressesAreReadBack : Type 0
AddressesAreReadBack = (address : Address) → IsAddress address → address_at (address_text address) ≡ Some address
