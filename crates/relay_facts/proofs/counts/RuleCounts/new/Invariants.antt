use Rattle.std.proofs.Common.{◌≡◌, length}
use Rattle.relay_facts.proofs.counts.RuleCounts.new.Given as goal

abbrev pub invariant-loop : goal.invariant-loop
invariant-loop l = length l.by_loop.items ≡ l.counter
