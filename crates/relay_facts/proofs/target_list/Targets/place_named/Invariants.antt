use Rattle.relay_facts.specs.Targets.{targets_of}
use Rattle.relay_facts.proofs.SteeringLemmas.{NamesNoneBelow}
use Rattle.relay_facts.proofs.target_list.Targets.place_named.Given as goal

abbrev pub invariant-loop-place : goal.invariant-loop-place
invariant-loop-place l = NamesNoneBelow l.word (targets_of l.fn.self) l.place
