use Rattle.std.proofs.Common.{◌≡◌, [], drop, length, map}
use Rattle.relay_config.specs.Entries.{target_entry}
use Rattle.relay_settings.specs.Meaning.{each_of, said_target_entry, target_behind}
use Rattle.relay_settings.proofs.served.each_target.Given as goal

abbrev pub invariant-loop-target : goal.invariant-loop-target
invariant-loop-target l = record {
  count : length l.found.items ≡ l.target-index;
  read : each_of (target_behind l.rule) [] (map target_entry l.targets)
      ≡ each_of (target_behind l.rule) (map said_target_entry l.found.items) (map target_entry (drop l.target-index l.targets));
}
