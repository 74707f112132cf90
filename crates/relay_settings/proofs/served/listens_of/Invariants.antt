use Rattle.std.proofs.Common.{◌≡◌, [], drop, map}
use Rattle.config_values.specs.Addr as config
use Rattle.relay_admin.specs.rules.Addr.{address_of}
use Rattle.relay_settings.specs.Meaning.{each_of, address_behind}
use Rattle.relay_settings.proofs.served.listens_of.Given as goal

abbrev pub invariant-loop-addr : goal.invariant-loop-addr
invariant-loop-addr l =
    each_of (address_behind l.rule) [] (map config.address_of l.listen)
    ≡ each_of (address_behind l.rule) (map address_of l.found.items) (map config.address_of (drop l.addr-index l.listen))
