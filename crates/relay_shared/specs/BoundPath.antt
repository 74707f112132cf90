-- The paths that binds made.
use Rattle.std.specs.Prelude.{Bool, List, Option, Some, None, remove}
use Rattle.std.specs.List.{position_or_len}
use Rattle.arrayvec.specs.declared.array_string.ArrayString.{ArrayString}
use Rattle.relay_admin.specs.declared.rules.addr.Addr.{Addr}
use Rattle.relay_admin.specs.declared.rules.addr.Addr.TheVariants.{Tcp, Tcp6, Unix}
use Rattle.relay_admin.specs.rules.Addr.{address_of, same_address}
use Rattle.relay_shared.specs.declared.bound_path.BoundPath.{BoundPath}
use Rattle.relay_shared.specs.declared.bound_path.BoundPaths.{BoundPaths}

-- the path of a Unix socket; a port has none
abbrev pub path_in : Addr → Option (ArrayString 100)
path_in (Tcp bytes port) = None
path_in (Tcp6 ip scope port) = None
path_in (Unix path) = Some path

-- the address that was bound
abbrev pub bound_addr : BoundPath → Addr
bound_addr bound = bound.addr

-- the paths that are to be removed, the one that was bound first ahead
abbrev pub paths_in : BoundPaths → List BoundPath
paths_in all = all.paths.items

-- it was bound at this address
abbrev pub is_bound_at : Addr → BoundPath → Bool
is_bound_at addr bound = same_address (address_of bound.addr) (address_of addr)

-- those that are left without the first of this address
abbrev pub paths_without : Addr → List BoundPath → List BoundPath
paths_without addr all = remove all (position_or_len (is_bound_at addr) all)
