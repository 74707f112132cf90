use Rattle.std.proofs.Common.{◌∙◌, sym, arith, rules}
use Rattle.relay_shared.specs.BoundPath.{is_bound_at}
use Rattle.relay_shared.proofs.FirstPlace.{first_passes, none_passes}
use Rattle.relay_shared.proofs.bound_path.place_of_path.Goals as goal

pub returns-then-is_same_addr : goal.returns-then-is_same_addr
returns-then-is_same_addr c =
    sym (first_passes (is_bound_at c.args.addr.now) c.args.paths.now c.loop-place.place c.index-paths-place.result
    (search rules) c.loop-place.invariant (sym c.is_same_addr.ensures ∙ c.if-is_same_addr.true))

pub returns : goal.returns
returns c =
    sym (none_passes (is_bound_at c.args.addr.now) c.args.paths.now
    (λ k d lt. c.loop-place.invariant k d (omega (arith, lt, c.loop-place-test.false))))
