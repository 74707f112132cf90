use Rattle.std.proofs.Common.{◌≡◌, [], drop, map}
use Rattle.toml.specs.View.{items_view}
use Rattle.relay_config.specs.Entries.{target_entry}
use Rattle.relay_config.specs.Rule.{target_behind}
use Rattle.relay_config.specs.Reading.{each_in}
use Rattle.relay_config.proofs.target.targets_in.Given as goal

abbrev pub invariant-loop-value : goal.invariant-loop-value
invariant-loop-value l =
    each_in (target_behind l.rule) [] (items_view l.items)
    ≡ each_in (target_behind l.rule) (map target_entry l.found.items) (items_view (drop l.value-index l.items))
