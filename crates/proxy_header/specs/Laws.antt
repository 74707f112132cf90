-- What headers have to be, whoever reads them.
use Rattle.std.specs.Prelude.{◌≡◌, ◌≤◌, ◌<◌, ℕ, List, ◌++◌, length, take}
use Rattle.proxy_header.specs.HeaderReading.{BeginsWith, IsAnswer, IsBegun, IsFaulty}
use Rattle.proxy_header.specs.HeaderWriting.{IsHeader, said_by_version1, version1_bytes, version2_bytes}
use Rattle.proxy_header.specs.declared.header_reading.Decoded.{Decoded}
use Rattle.proxy_header.specs.declared.fault.HeaderFault.{HeaderFault}
use Rattle.proxy_header.specs.declared.header.Header.{Header}
use Rattle.proxy_header.specs.declared.header.TheConstants.{MAX_BYTES}

-- bytes begin with one header at most, have one fault at most, and never two of header, beginning
-- and fault
abbrev pub OneAnswer : Type 0
OneAnswer = (bytes : List ℕ) (one other : Decoded) → IsAnswer bytes one → IsAnswer bytes other
    → one ≡ other

-- what is the beginning of a header is shorter than the longest header
abbrev pub BeginningsAreShort : Type 0
BeginningsAreShort = (bytes : List ℕ) → IsBegun bytes → length bytes < MAX_BYTES

-- a header hangs on its own bytes alone: what comes behind them changes neither what it says nor
-- how long it is
abbrev pub HeadersStay : Type 0
HeadersStay = (bytes other : List ℕ) (size : ℕ) (said : Header)
    → take size other ≡ take size bytes → size ≤ length other
    → BeginsWith bytes size said → BeginsWith other size said

-- more bytes mend no fault
abbrev pub FaultsStay : Type 0
FaultsStay = (bytes rest : List ℕ) (fault : HeaderFault) → IsFaulty bytes fault
    → IsFaulty (bytes ++ rest) fault

-- what is written in version 2 is a header that says what was to be said
abbrev pub Version2Says : Type 0
Version2Says = (header : Header) (rest : List ℕ) → IsHeader header
    → BeginsWith (version2_bytes header ++ rest) (length (version2_bytes header)) header

-- what is written in version 1 is a header that says as much of it as version 1 can
abbrev pub Version1Says : Type 0
Version1Says = (header : Header) (rest : List ℕ) → IsHeader header
    → BeginsWith (version1_bytes header ++ rest) (length (version1_bytes header)) (said_by_version1 header)
