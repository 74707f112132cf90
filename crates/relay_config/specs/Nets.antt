-- Lists of networks.
use Rattle.std.specs.Prelude.{ℕ, List, [], length, Option, Some, None, Result, option_and_then, if◌then◌else◌}
use Rattle.client_nets.specs.Net.{Network, net_at, v4, v6}
use Rattle.config_values.specs.Ip.{is_mapped}
use Rattle.toml.specs.Data.{Data, Members}
use Rattle.relay_config.specs.Fault.{item_spot}
use Rattle.relay_config.specs.Reading.{◌>>=◌, each_in, some_if_there, spelled}
use Rattle.relay_config.specs.declared.fault.Fault.{Fault}
use Rattle.relay_config.specs.declared.fault.Key.{Key}
use Rattle.relay_config.specs.declared.fault.Place.{Place}
use Rattle.relay_config.specs.declared.nets.TheConstants.{MAX_NETS}

-- a network whose address isn't IPv4-mapped
abbrev pub unmapped_net : Network → Option Network
unmapped_net (v4 octets bits) = Some (v4 octets bits)
unmapped_net (v6 segments bits) = if is_mapped segments then None else Some (v6 segments bits)

-- such a network, by its text
abbrev pub network_at : List ℕ → Option Network
network_at text = option_and_then unmapped_net (net_at text)

-- the network behind these of the list at a key
abbrev pub net_behind : Place → Key → List Network → Data → Result Network Fault
net_behind here key found d = spelled network_at (item_spot here key (length found)) d

-- the networks of the list at a key, one at least; none where there is no such key
unfoldable pub nets_of : Place → Key → Members → Result (List Network) Fault
nets_of here key table = do
  ds ← some_if_there MAX_NETS here key table
  each_in (net_behind here key) [] ds
