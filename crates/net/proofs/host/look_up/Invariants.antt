-- The addresses that were taken so far have the port.
use Rattle.std.proofs.Common.{All}
use Rattle.net.specs.Host.{HasPort}
use Rattle.net.proofs.host.look_up.Given as goal

abbrev pub invariant-loop-one : goal.invariant-loop-one
invariant-loop-one g l = All (HasPort l.port) l.addrs.items
