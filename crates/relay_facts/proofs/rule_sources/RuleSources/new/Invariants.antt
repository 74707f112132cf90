use Rattle.std.proofs.Common.{◌≡◌, length}
use Rattle.relay_facts.proofs.rule_sources.RuleSources.new.Given as goal

-- a place a turn
abbrev pub invariant-loop : goal.invariant-loop
invariant-loop l = length l.ended.items ≡ l.counter
