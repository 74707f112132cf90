use Rattle.std.proofs.Common.{◌≡◌, drop}
use Rattle.deadline_core.proofs.TournamentLemmas.{WonAbove}
use Rattle.deadline_core.proofs.tournament.play.Given as goal

abbrev pub invariant-loop-before : goal.invariant-loop-before
invariant-loop-before l = record {
  won : WonAbove l.room l.before l.tree;
  leaves : drop l.room l.tree ≡ drop l.room l.fn.tree;
}
