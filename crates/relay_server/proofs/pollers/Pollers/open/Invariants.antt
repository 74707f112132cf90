use Rattle.std.proofs.Common.{◌≡◌, length}
use Rattle.relay_server.proofs.pollers.Pollers.open.Given as goal

-- a poller a turn
abbrev pub invariant-loop : goal.invariant-loop
invariant-loop g l = length l.pollers.loops.items ≡ l.counter
