use Rattle.std.proofs.Common.{◌≡◌}
use Rattle.relay_main.proofs.sessions.Seated.go_on.Given as goal

abbrev pub invariant-loop : goal.invariant-loop
invariant-loop g l = l.self.token ≡ l.initial.self.token
