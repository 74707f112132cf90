-- What the first bytes of a stream are: a header, the beginning of one, or neither.
use Rattle.std.specs.Prelude.{◌≡◌, ◌<◌, ◌≤◌, ◌+◌, ◌⊎◌, ℕ, List, length, take, min, Some, None, codes}
use Rattle.proxy_header.specs.Block.{IsHead, IsVersion2, block_size, command_in, family_in}
use Rattle.proxy_header.specs.Block.{head_fault, signature}
use Rattle.proxy_header.specs.Line.{IsEnd, IsVersion1, NoEndBelow, SpellsLine}
use Rattle.proxy_header.specs.declared.header_reading.Decoded.{Decoded}
use Rattle.proxy_header.specs.declared.header_reading.Decoded.TheVariants.{Whole, More, Fault}
use Rattle.proxy_header.specs.declared.fault.HeaderFault.{HeaderFault}
use Rattle.proxy_header.specs.declared.fault.HeaderFault.TheVariants as faults
use Rattle.proxy_header.specs.declared.header.Header.{Header}
use Rattle.proxy_header.specs.declared.header.TheConstants.{MAX_LINE_BYTES}

-- the bytes begin with a header of so many bytes that says this
abbrev pub BeginsWith : List ℕ → ℕ → Header → Type 0
BeginsWith bytes size said = IsVersion2 bytes size said ⊎ IsVersion1 bytes size said

-- as far as both go, the bytes are those of the front
abbrev pub Agrees : List ℕ → List ℕ → Type 0
Agrees bytes front =
    take (min (length bytes) (length front)) bytes ≡ take (min (length bytes) (length front)) front

-- the word of version 1, and its space
abbrev pub word : List ℕ
word = codes "PROXY "

-- a head without its end, or one without its whole block
abbrev pub IsBegunVersion2 : List ℕ → Type 0
IsBegunVersion2 bytes =
    (Agrees bytes signature × (length bytes < 16))
    ⊎ (IsHead bytes × (head_fault (command_in bytes) (family_in bytes) (block_size bytes) ≡ None)
    × (length bytes < 16 + block_size bytes))

-- a line that may still end in time
pub record IsBegunVersion1 (bytes : List ℕ) : Type 0 where
  pub begun : Agrees bytes word
  pub short : length bytes < MAX_LINE_BYTES
  pub endless : (k : ℕ) → IsEnd bytes k → ⊥

-- the beginning of a header, of which more is needed
abbrev pub IsBegun : List ℕ → Type 0
IsBegun bytes = IsBegunVersion2 bytes ⊎ IsBegunVersion1 bytes

-- a line that ends in time, here, and spells no header
pub record EndsBadly (bytes : List ℕ) (place : ℕ) : Type 0 where
  pub begun : Agrees bytes word
  pub short : place + 2 ≤ MAX_LINE_BYTES
  pub first : NoEndBelow bytes place
  pub ended : IsEnd bytes place
  pub unspelled : (said : Header) → SpellsLine (take place bytes) said → ⊥

-- a line that has as many bytes as one may have, and no end
pub record IsEndless (bytes : List ℕ) : Type 0 where
  pub begun : Agrees bytes word
  pub long : MAX_LINE_BYTES ≤ length bytes
  pub endless : (k : ℕ) → k + 2 ≤ MAX_LINE_BYTES → IsEnd bytes k → ⊥

-- whatever comes behind the bytes, they begin with no header, for this reason first
abbrev pub IsFaulty : List ℕ → HeaderFault → Type 0
IsFaulty bytes faults.NoHeader = (Agrees bytes signature → ⊥) × (Agrees bytes word → ⊥)
IsFaulty bytes faults.NoEnd = IsEndless bytes
IsFaulty bytes faults.BadLine = (place : ℕ) × EndsBadly bytes place
IsFaulty bytes fault = IsHead bytes
    × (head_fault (command_in bytes) (family_in bytes) (block_size bytes) ≡ Some fault)

-- an answer says what the bytes are
abbrev pub IsAnswer : List ℕ → Decoded → Type 0
IsAnswer bytes (Whole said size) = BeginsWith bytes size said
IsAnswer bytes More = IsBegun bytes
IsAnswer bytes (Fault fault) = IsFaulty bytes fault
