use Rattle.std.proofs.Common.{◌≡◌, ◌+◌, vec_len}
use Rattle.net.proofs.service.join_all.Given as goal

-- those that are counted and those that are left are all
abbrev pub invariant-loop-one : goal.invariant-loop-one
invariant-loop-one g l = l.ended.loops + vec_len l.loops ≡ vec_len l.fn.loops

abbrev pub decreases-loop-one : goal.decreases-loop-one
decreases-loop-one g l = vec_len l.loops
