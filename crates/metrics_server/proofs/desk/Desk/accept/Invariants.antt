use Rattle.std.proofs.Common.{◌≡◌}
use Rattle.metrics_server.specs.Desk.{StandsBehind}
use Rattle.metrics_server.proofs.desk.Desk.accept.Given as goal

abbrev pub invariant-loop : goal.invariant-loop
invariant-loop g l = record {
  kept : StandsBehind l.initial.self.accepted.items l.self.accepted.items;
  clients : l.self.standing ≡ l.initial.self.standing;
}
