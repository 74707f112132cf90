use Rattle.relay_facts.specs.SharedHealth.{IsHealth}
use Rattle.relay_facts.proofs.shared_health.TargetHealth.note.Given as goal

abbrev pub invariant-loop : goal.invariant-loop
invariant-loop l = IsHealth l.found
