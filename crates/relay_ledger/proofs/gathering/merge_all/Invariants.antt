use Rattle.std.proofs.Common.{◌≡◌, ◌+◌, vec_len}
use Rattle.std.specs.Prelude.{sum}
use Rattle.relay_ledger.proofs.gathering.merge_all.Given as goal

abbrev pub invariant-loop-share : goal.invariant-loop-share
invariant-loop-share g l =
    (l.rest.parts + vec_len l.left ≡ l.fn.rest.parts + vec_len l.fn.shares)
    × (l.rest.amount + sum l.left.items ≡ l.fn.rest.amount + sum l.fn.shares.items)

abbrev pub decreases-loop-share : goal.decreases-loop-share
decreases-loop-share g l = vec_len l.left
