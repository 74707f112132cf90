use Rattle.relay_facts.specs.TargetFigures.{TellsFirst}
use Rattle.relay_facts.specs.Targets.{targets_of}
use Rattle.relay_facts.proofs.target_list.Targets.add_figures.Given as goal

abbrev pub invariant-loop-place : goal.invariant-loop-place
invariant-loop-place l =
    TellsFirst l.rule.bytes (targets_of l.fn.self) l.place l.initial.figures.items l.figures.items
