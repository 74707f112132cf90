use Rattle.std.proofs.Common.{◌≡◌, None, replicate}
use Rattle.relay_main.proofs.sessions.Sessions.none.Given as goal

abbrev pub invariant-loop : goal.invariant-loop
invariant-loop l = l.places.items ≡ replicate l.counter None
