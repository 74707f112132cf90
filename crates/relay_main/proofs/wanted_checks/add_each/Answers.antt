use Rattle.std.specs.Arc.{arc_value}
use Rattle.relay_main.specs.Checks.{IsCheckOf}
use Rattle.relay_main.proofs.MoreLemmas.{has_none, has_one_or_none}
use Rattle.relay_main.proofs.wanted_checks.add_each.Goals as goal

pub loop-place-init : goal.loop-place-init
loop-place-init c =
    has_none (IsCheckOf (arc_value c.args.served.now) (arc_value c.args.targets.now) c.args.said.now) c.args.all.now.items

pub loop-place-preserved : goal.loop-place-preserved
loop-place-preserved c =
    has_one_or_none _ _ _ _ _ (λ one is. is.1) c.loop-place.invariant c.in_ok-add_target.ensures
