use Rattle.std.proofs.Common.{◌≡◌}
use Rattle.relay_facts.proofs.rule_sources.Guarded.learn.Given as goal

abbrev pub invariant-loop-place : goal.invariant-loop-place
invariant-loop-place l = l.self.paced ≡ l.initial.self.paced
