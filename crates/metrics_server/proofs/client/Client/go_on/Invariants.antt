use Rattle.http_server.specs.Exchange.{Calls}
use Rattle.metrics_server.specs.Client.{calls_of}
use Rattle.metrics_server.proofs.client.Client.go_on.Given as goal

-- the calls so far lead to the service as it is now
abbrev pub invariant-loop-round : goal.invariant-loop-round
invariant-loop-round g l =
    Calls g.S.Service.answers l.fn.service l.service (calls_of l.fn.self) (calls_of l.self)
