use Rattle.std.proofs.Common.{◌≡◌, take}
use Rattle.relay_facts.specs.Source.{rules_said}
use Rattle.relay_main.proofs.reload_prepared.rules_of.Given as goal

abbrev pub invariant-loop-said : goal.invariant-loop-said
invariant-loop-said l = l.rules.items ≡ rules_said (take l.said-index l.all)
