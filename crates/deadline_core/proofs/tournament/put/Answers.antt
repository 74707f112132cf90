use Rattle.std.proofs.Common.{arith, ◌∙◌, ◌/◌, ◌+◌}
use Rattle.std.proofs.lemmas.List.{drop-set-lt, drop-set-add, length-set}
use Rattle.deadline_core.proofs.TournamentLemmas.{leaf_changed, raised}
use Rattle.deadline_core.proofs.tournament.put.Goals as goal

pub loop-node-init : goal.loop-node-init
loop-node-init c = record {
  more = omega (arith, c.requires.place);
  within = omega (arith, c.requires.place);
  won = leaf_changed c.args.room c.args.place c.args.tree.now c.args.alarm c.requires.place c.requires.tournament;
  leaves = drop-set-add c.args.room c.args.tree.now c.args.place c.args.alarm;
}

pub loop-node-preserved : goal.loop-node-preserved
loop-node-preserved c = record {
  more = omega arith;
  within = omega (arith, c.loop-node.invariant.within);
  won = raised c.args.room (c.loop-node.node / 2) c.loop-node.tree c.earlier-least.result (omega arith)
      (omega (arith, c.loop-node.invariant.within, c.requires.tournament.whole, c.loop-node.auto.tree, length-set c.args.tree.now (c.args.room + c.args.place) c.args.alarm))
      c.loop-node.invariant.won c.earlier-least.ensures;
  leaves = drop-set-lt c.args.room c.loop-node.tree (c.loop-node.node / 2) c.earlier-least.result
      (omega (arith, c.loop-node.invariant.within)) ∙ c.loop-node.invariant.leaves;
}
