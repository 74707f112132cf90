use Rattle.std.proofs.Common.{◌≡◌, ◌++◌, drop}
use Rattle.relay_facts.specs.NamedTargets.{targets_from}
use Rattle.relay_facts.proofs.named_targets.looked_up.Given as goal

abbrev pub invariant-loop-place : goal.invariant-loop-place
invariant-loop-place l =
    targets_from l.answers.all.items l.names 0 l.targets
    ≡ l.all.items ++ targets_from l.answers.all.items l.names l.place (drop l.place l.targets)
