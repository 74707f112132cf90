use Rattle.relay_facts.specs.Counts.{NoneFalls}
use Rattle.relay_facts.proofs.rule_figures.add_each.Given as goal

abbrev pub invariant-loop-place : goal.invariant-loop-place
invariant-loop-place l = NoneFalls l.initial.sums l.sums
