-- Addresses as a program writes them.
use Rattle.std.specs.Prelude.{◌≡◌, ℕ, ◌++◌, List, length, ◌<◌, ◌≤◌}
use Rattle.arrayvec.specs.ArrayString.{ArrayString}
use Rattle.std.specs.Net.Grammar.{IsSocketText}
use Rattle.std.specs.declared.net.socket_addr.SocketAddr.{SocketAddr}
use Rattle.readiness.specs.Peers.{bytes_of, tcp_addr}
use Rattle.readiness.specs.declared.addr.Addr.{Addr}
use Rattle.readiness.specs.declared.addr.Addr.TheVariants as addr
use Rattle.readiness.specs.declared.addr.TheConstants.{MAX_PATH_BYTES}
use Rattle.net.specs.declared.address.TheConstants.{UNIX}

-- the text names this address: `unix:` and a path of 1 to 100 bytes, or an address with its port, as the
-- standard library spells one; an IPv4-mapped one names the IPv4 address in it
abbrev pub Names : List ℕ → Addr → Type 0
Names text (addr.Unix path) = (text ≡ UNIX.now ++ bytes_of path)
    × (0 < length (bytes_of path)) × (length (bytes_of path) ≤ MAX_PATH_BYTES)
Names text other = (at : SocketAddr) × IsSocketText text at × (other ≡ tcp_addr at)

-- the text names no path
abbrev pub NamesNoPath : List ℕ → Type 0
NamesNoPath text = (path : ArrayString) → ¬ (Names text (addr.Unix path))

-- the text names no address with a port
abbrev pub NamesNoPort : List ℕ → Type 0
NamesNoPort text = (at : SocketAddr) → ¬ (IsSocketText text at)

-- the text names no address
abbrev pub NamesNothing : List ℕ → Type 0
NamesNothing text = (named : Addr) → ¬ (Names text named)
