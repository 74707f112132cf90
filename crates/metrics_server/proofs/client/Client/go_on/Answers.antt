use Rattle.http_server.proofs.StreamLemmas.{Calls-then}
use Rattle.metrics_server.proofs.client.Client.go_on.Goals as goal

pub returns-in-Some : goal.returns-in-Some
returns-in-Some g c = record {
  calls = Calls-then g.S.Service.answers _ _ _ _ _ _ c.loop-round.invariant c.step.ensures.calls;
}

pub loop-round-preserved : goal.loop-round-preserved
loop-round-preserved g c =
    Calls-then g.S.Service.answers _ _ _ _ _ _ c.loop-round.invariant c.step.ensures.calls
