use Rattle.std.proofs.Common.{◌≡◌, drop, map}
use Rattle.config_values.specs.Addr.{address_of}
use Rattle.relay_config.specs.Rule.{has_address}
use Rattle.relay_config.proofs.listen.has_address.Given as goal

abbrev pub invariant-loop-other : goal.invariant-loop-other
invariant-loop-other l =
    has_address (address_of l.addr) (map address_of l.found)
    ≡ has_address (address_of l.addr) (map address_of (drop l.other-index l.found))
