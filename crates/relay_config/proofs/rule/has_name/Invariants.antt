use Rattle.std.proofs.Common.{◌≡◌, drop, map}
use Rattle.relay_config.specs.Entries.{rule_entry}
use Rattle.relay_config.specs.Rule.{has_name}
use Rattle.relay_config.proofs.rule.has_name.Given as goal

abbrev pub invariant-loop-rule : goal.invariant-loop-rule
invariant-loop-rule l = has_name l.name (map rule_entry l.rules) ≡ has_name l.name (map rule_entry (drop l.rule-index l.rules))
