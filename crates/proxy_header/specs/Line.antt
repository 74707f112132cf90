-- Version 1: a line of text, which ends at the first CR LF.
use Rattle.std.specs.Prelude.{◌≡◌, ◌<◌, ◌≤◌, ◌+◌, ◌⊎◌, ℕ, List, ◌∷◌, ◌++◌, take, slice_index, codes}
use Rattle.std.specs.Prelude.{Option, Some}
use Rattle.std.specs.Net.Grammar.{IsIpv4Text, IsIpv6Text}
use Rattle.std.specs.Fmt.{decimal}
use Rattle.stream_base.specs.Lines.{Lacks}
use Rattle.proxy_header.specs.declared.header.EndsV4.{EndsV4}
use Rattle.proxy_header.specs.declared.header.EndsV6.{EndsV6}
use Rattle.proxy_header.specs.declared.header.Header.{Header}
use Rattle.proxy_header.specs.declared.header.Header.TheVariants.{Local, Unknown, V4, V6, Unix}
use Rattle.proxy_header.specs.declared.header.TheConstants.{MAX_LINE_BYTES}
use Rattle.text_reading.specs.Reading.{◌>>=◌, number_within, split_at_first}

-- the byte " "
abbrev pub space : ℕ
space = 32

-- a CR LF stands here
abbrev pub IsEnd : List ℕ → ℕ → Type 0
IsEnd bytes at = (slice_index bytes at ≡ 13) × (slice_index bytes (at + 1) ≡ 10)

-- no CR LF begins before this place
abbrev pub NoEndBelow : List ℕ → ℕ → Type 0
NoEndBelow bytes at = (k : ℕ) → k < at → IsEnd bytes k → ⊥

-- an address, a space, another, a space, a port, a space and another
abbrev pub ends_text : List ℕ → List ℕ → ℕ → ℕ → List ℕ
ends_text source destination source_port destination_port =
    source ++ space ∷ (destination ++ space ∷ (decimal source_port ++ space ∷ decimal destination_port))

-- the text is such addresses and ports; no address has a space
pub record SpellsEnds (text : List ℕ) (IsSource IsDestination : List ℕ → Type 0) (source_port destination_port : ℕ) : Type 0 where
  pub source : List ℕ
  pub destination : List ℕ
  pub spelled : text ≡ ends_text source destination source_port destination_port
  pub is_source : IsSource source
  pub is_destination : IsDestination destination
  pub source_is_a_word : Lacks space source
  pub destination_is_a_word : Lacks space destination
  pub ports : (source_port ≤ 65535) × (destination_port ≤ 65535)

-- the text spells both ends of a connection over IPv4
abbrev pub SpellsV4 : List ℕ → EndsV4 → Type 0
SpellsV4 text ends = SpellsEnds text (λ (t : List ℕ). IsIpv4Text t ends.source)
    (λ (t : List ℕ). IsIpv4Text t ends.destination) ends.source_port ends.destination_port

-- over IPv6
abbrev pub SpellsV6 : List ℕ → EndsV6 → Type 0
SpellsV6 text ends = SpellsEnds text (λ (t : List ℕ). IsIpv6Text t ends.source)
    (λ (t : List ℕ). IsIpv6Text t ends.destination) ends.source_port ends.destination_port

-- the line has the word UNKNOWN; behind it and a space anything may stand
abbrev pub SaysUnknown : List ℕ → Type 0
SaysUnknown line =
    (line ≡ codes "PROXY UNKNOWN") ⊎ ((rest : List ℕ) × (line ≡ codes "PROXY UNKNOWN " ++ rest))

-- a line, without its CR LF, spells this header
abbrev pub SpellsLine : List ℕ → Header → Type 0
SpellsLine line (V4 ends) = (text : List ℕ) × (line ≡ codes "PROXY TCP4 " ++ text) × SpellsV4 text ends
SpellsLine line (V6 ends) = (text : List ℕ) × (line ≡ codes "PROXY TCP6 " ++ text) × SpellsV6 text ends
SpellsLine line Unknown = SaysUnknown line
SpellsLine line Local = ⊥
SpellsLine line (Unix names) = ⊥

-- the parts of a text that is read from left to right: two words and two ports
unfoldable pub words_at : List ℕ → Option (List ℕ × List ℕ × ℕ × ℕ)
words_at text = do
  source ← split_at_first space text
  destination ← split_at_first space source.1
  ports ← split_at_first space destination.1
  source_port ← number_within 0 65535 ports.0
  destination_port ← number_within 0 65535 ports.1
  Some (source.0, destination.0, source_port, destination_port)

-- the bytes begin with a header of version 1, of so many bytes, that says this
pub record IsVersion1 (bytes : List ℕ) (size : ℕ) (said : Header) : Type 0 where
  pub place : ℕ
  pub ends : size ≡ place + 2
  pub short : size ≤ MAX_LINE_BYTES
  pub first : NoEndBelow bytes place
  pub ended : IsEnd bytes place
  pub says : SpellsLine (take place bytes) said
