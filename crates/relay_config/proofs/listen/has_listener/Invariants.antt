use Rattle.std.proofs.Common.{◌≡◌, drop, map}
use Rattle.config_values.specs.Addr.{address_of}
use Rattle.relay_config.specs.Entries.{rule_entry}
use Rattle.relay_config.specs.Rule.{has_listener}
use Rattle.relay_config.proofs.listen.has_listener.Given as goal

abbrev pub invariant-loop-rule : goal.invariant-loop-rule
invariant-loop-rule l =
    has_listener (address_of l.addr) (map rule_entry l.rules)
    ≡ has_listener (address_of l.addr) (map rule_entry (drop l.rule-index l.rules))
