use Rattle.std.proofs.Common.{◌∙◌, ap}
use Rattle.readiness_tests.specs.Recorded.{host_calls_of}
use Rattle.readiness_tests.proofs.TurnLemmas.{told_so, where_ok}
use Rattle.readiness_tests.proofs.tests.telling.turn_told.Goals as goal

-- from no call kept before, the host keeps exactly those of the turn
pub returns : goal.returns
returns g c whole = where_ok _ _ (told_so _ _ _ _ _
    (λ calls told earlier is. told earlier (λ w. ap host_calls_of c.requires ∙ is) whole) _ _ _ _)
    c.turn.result c.turn.ensures.made
