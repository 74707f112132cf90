use Rattle.std.proofs.Common.{◌≡◌, [], drop, map}
use Rattle.config_values.specs.Addr.{address_of}
use Rattle.toml.specs.View.{items_view}
use Rattle.relay_config.specs.Entries.{rule_entry}
use Rattle.relay_config.specs.Rule.{listener_behind}
use Rattle.relay_config.specs.Reading.{each_in}
use Rattle.relay_config.proofs.listen.listeners_in.Given as goal

abbrev pub invariant-loop-value : goal.invariant-loop-value
invariant-loop-value l =
    each_in (listener_behind (map rule_entry l.before)) [] (items_view l.items)
    ≡ each_in (listener_behind (map rule_entry l.before)) (map address_of l.found.items) (items_view (drop l.value-index l.items))
