use Rattle.std.proofs.Common.{◌≡◌, [], drop, map}
use Rattle.relay_config.specs.Entries.{rule_entry}
use Rattle.relay_settings.specs.Meaning.{each_of, rule_behind, said_rule_entry}
use Rattle.relay_settings.proofs.rules.rules_of.Given as goal

abbrev pub invariant-loop-rule : goal.invariant-loop-rule
invariant-loop-rule l =
    each_of rule_behind [] (map rule_entry l.rules)
    ≡ each_of rule_behind (map said_rule_entry l.found.items) (map rule_entry (drop l.rule-index l.rules))
