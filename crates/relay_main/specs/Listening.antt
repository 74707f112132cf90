-- The listeners that a relay was started with.
use Rattle.std.specs.Prelude.{◌≡◌, Bool, List, Option, find, remove}
use Rattle.std.specs.Option.{option_map}
use Rattle.std.specs.List.{position_or_len}
use Rattle.readiness.specs.declared.sock.Listen.{Listen}
use Rattle.relay_admin.specs.declared.rules.addr.Addr.{Addr}
use Rattle.relay_admin.specs.rules.Addr.{address_of, same_address}
use Rattle.relay_main.specs.declared.listening.GivenListener.{GivenListener}
use Rattle.relay_main.specs.declared.listening.Opened.{Opened}
use Rattle.relay_main.specs.declared.listening.Opened.TheVariants.{Given, Bound}
use Rattle.relay_shared.specs.BoundPath.{bound_addr}

-- a listener is given at this address
abbrev pub is_at : Addr → GivenListener → Bool
is_at addr given = same_address (address_of given.addr) (address_of addr)

-- the first that is given at this address
abbrev pub given_at : Addr → List GivenListener → Option Listen
given_at addr all = option_map (λ given. given.listener) (find (is_at addr) all)

-- those that are left without it
abbrev pub left_by : Addr → List GivenListener → List GivenListener
left_by addr all = remove all (position_or_len (is_at addr) all)

-- a listener was bound just now at this address, and its path is ours
abbrev pub IsBoundAt : Addr → Opened → Type 0
IsBoundAt addr (Given listener) = ⊥
IsBoundAt addr (Bound listener path) = bound_addr path ≡ addr
