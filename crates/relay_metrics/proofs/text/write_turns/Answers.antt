use Rattle.std.proofs.Common.{arith}
use Rattle.std.proofs.lemmas.Grind.{common_steps}
use Rattle.relay_metrics.specs.Text.{turns_from}
use Rattle.relay_metrics.proofs.TurnLemmas.{turns_from-more}
use Rattle.relay_metrics.proofs.text.write_turns.Goals as goal

pub loop-place-init : goal.loop-place-init
unfolding turns_from
loop-place-init g c = grind (arith, common_steps)

pub loop-place-preserved : goal.loop-place-preserved
loop-place-preserved g c =
    let more = turns_from-more c.args.turns.now c.loop-place.place c.loop-place-test.true in
    grind (arith, common_steps, more)
