use Rattle.std.proofs.Common.{◌≡◌, ◌+◌, vec_len}
use Rattle.net.proofs.open_loops.start_loops.Given as goal

-- those that were started and those that are left are all
abbrev pub invariant-loop-one : goal.invariant-loop-one
invariant-loop-one g l = vec_len l.started + vec_len l.opened ≡ vec_len l.fn.started + vec_len l.fn.opened

abbrev pub decreases-loop-one : goal.decreases-loop-one
decreases-loop-one g l = vec_len l.opened
