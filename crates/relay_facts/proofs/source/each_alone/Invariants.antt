use Rattle.std.proofs.Common.{◌≡◌, length}
use Rattle.std.specs.Prelude.{map, take}
use Rattle.relay_facts.specs.Source.{entry_alone}
use Rattle.relay_settings.specs.Meaning.{said_rule_entry}
use Rattle.relay_facts.proofs.source.each_alone.Given as goal

abbrev pub invariant-loop-rule : goal.invariant-loop-rule
invariant-loop-rule l = (length l.all.items ≡ l.rule-index)
    × (map said_rule_entry l.all.items ≡ map entry_alone (take l.rule-index l.rules))
