use Rattle.std.proofs.Common.{◌≡◌, take}
use Rattle.relay_shared.specs.Placing.{sum_of}
use Rattle.relay_shared.proofs.shared.sum_of.Given as goal

abbrev pub invariant-loop-count : goal.invariant-loop-count
invariant-loop-count l = l.sum ≡ sum_of (take l.count-index l.counts)
