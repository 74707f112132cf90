use Rattle.std.proofs.Common.{◌≡◌, []}
use Rattle.metrics_server.proofs.server.MetricsServer.turn.Given as goal

abbrev pub invariant-loop-sock : goal.invariant-loop-sock
invariant-loop-sock g l = l.self.desk.accepted.items ≡ []
