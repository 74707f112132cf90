use Rattle.std.proofs.Common.{◌≡◌, ◌<◌, ◌*◌, ◌/◌, drop, set}
use Rattle.deadline_core.proofs.TournamentLemmas.{WonBut}
use Rattle.deadline_core.proofs.tournament.put.Given as goal

abbrev pub invariant-loop-node : goal.invariant-loop-node
invariant-loop-node l = record {
  more : 0 < l.node;
  within : l.node < 2 * l.room;
  won : WonBut l.room (l.node / 2) l.tree;
  leaves : drop l.room l.tree ≡ set (drop l.room l.fn.tree) l.fn.place l.fn.alarm;
}

abbrev pub decreases-loop-node : goal.decreases-loop-node
decreases-loop-node l = l.node
