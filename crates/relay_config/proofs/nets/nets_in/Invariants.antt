use Rattle.std.proofs.Common.{◌≡◌, [], drop, map}
use Rattle.client_nets.specs.Net.{network_of}
use Rattle.toml.specs.View.{items_view}
use Rattle.relay_config.specs.Nets.{net_behind}
use Rattle.relay_config.specs.Reading.{each_in}
use Rattle.relay_config.proofs.nets.nets_in.Given as goal

abbrev pub invariant-loop-value : goal.invariant-loop-value
invariant-loop-value l =
    each_in (net_behind l.place l.key) [] (items_view l.items)
    ≡ each_in (net_behind l.place l.key) (map network_of l.found.items) (items_view (drop l.value-index l.items))
