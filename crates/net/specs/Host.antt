-- The name of a host with a port.
use Rattle.std.specs.Prelude.{◌≡◌, ◌≢◌, ◌⊎◌, ◌<◌, ◌^◌, ◌==◌, ℕ, List, [], length}
use Rattle.std.specs.Fmt.{decimal}
use Rattle.std.specs.List.{position_or_len, before_first, after_first}
use Rattle.readiness.specs.declared.addr.Addr.{Addr}
use Rattle.readiness.specs.declared.addr.Addr.TheVariants as addr
use Rattle.net.specs.Address.{Names}

-- a colon is in it
abbrev pub HasColon : List ℕ → Type 0
HasColon text = position_or_len (λ byte. byte == 58) text < length text

-- what stands before the first colon
abbrev pub host_in : List ℕ → List ℕ
host_in text = before_first (λ byte. byte == 58) text

-- what stands behind it
abbrev pub port_in : List ℕ → List ℕ
port_in text = after_first (λ byte. byte == 58) text

-- the text spells no port
abbrev pub SpellsNoPort : List ℕ → Type 0
SpellsNoPort text = (port : ℕ) → port < 2 ^ 16 → text ≡ decimal port → ⊥

-- the text names this host and this port: what stands before its first colon, which isn't empty, and the
-- decimal number below 2^16 behind it
pub record NamesHost (text host : List ℕ) (port : ℕ) : Type 0 where
  pub colon : HasColon text
  pub before : host_in text ≡ host
  pub some : host ≢ []
  pub behind : port_in text ≡ decimal port
  pub fits : port < 2 ^ 16

-- the text names no host with a port
abbrev pub NamesNoHost : List ℕ → Type 0
NamesNoHost text = (host : List ℕ) (port : ℕ) → NamesHost text host port → ⊥

-- an address of TCP with this port
abbrev pub HasPort : ℕ → Addr → Type 0
HasPort port (addr.Tcp bytes at) = at ≡ port
HasPort port (addr.Tcp6 ip scope at) = at ≡ port
HasPort port (addr.Unix path) = ⊥

-- the text names this address, or a host with this address's port
abbrev pub IsPeerAt : List ℕ → Addr → Type 0
IsPeerAt text at =
    Names text at
    ⊎ ((host : List ℕ) × (port : ℕ) × NamesHost text host port × HasPort port at)
