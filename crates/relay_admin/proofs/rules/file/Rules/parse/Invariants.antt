use Rattle.std.proofs.Common.{◌≤◌, ◌+◌, length}
use Rattle.relay_admin.specs.rules.Grammar.{entries_of}
use Rattle.relay_admin.proofs.rules.LineSteps.{SoFar}
use Rattle.relay_admin.proofs.rules.file.Rules.parse.Given as goal

abbrev pub invariant-loop-rest : goal.invariant-loop-rest
invariant-loop-rest l = record {
  few_lines : l.number + length l.rest ≤ length l.text + 1;
  so_far : SoFar l.text l.rest l.number (entries_of l.rules.items);
}

abbrev pub decreases-loop-rest : goal.decreases-loop-rest
decreases-loop-rest l = length l.rest
