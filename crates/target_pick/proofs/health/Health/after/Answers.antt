use Rattle.std.proofs.Common.{◌∷◌, subst, sym}
use Rattle.target_pick.specs.Health.{Stands}
use Rattle.target_pick.proofs.Healths.{step_stands}
use Rattle.target_pick.proofs.health.Health.after.Goals as goal

pub returns : goal.returns
returns c = λ outcomes stands.
    subst (Stands c.args.limits.now (c.args.outcome ∷ outcomes)) (sym c.stepped.ensures)
    (step_stands c.args.limits.now outcomes c.args.self c.args.outcome stands)
