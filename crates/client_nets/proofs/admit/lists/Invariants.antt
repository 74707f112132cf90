use Rattle.std.proofs.Common.{take}
use Rattle.client_nets.specs.Net.{IsListed}
use Rattle.client_nets.proofs.admit.lists.Given as goal

abbrev pub invariant-loop-net : goal.invariant-loop-net
invariant-loop-net l = IsListed (take l.net-index l.nets) l.address → ⊥
