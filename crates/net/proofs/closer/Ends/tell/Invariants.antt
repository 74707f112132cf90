use Rattle.std.proofs.Common.{◌≡◌}
use Rattle.net.proofs.closer.Ends.tell.Given as goal

-- as many loops as were gone through were told
abbrev pub invariant-loop-at : goal.invariant-loop-at
invariant-loop-at g l = l.told ≡ record { loops = l.at; until = l.until }
