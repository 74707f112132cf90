use Rattle.std.proofs.Common.{◌≡◌, vec_len}
use Rattle.net.proofs.open_loops.open_loops.Given as goal

-- a loop for each turn
abbrev pub invariant-loop : goal.invariant-loop
invariant-loop g l = vec_len l.opened ≡ l.counter
