use Rattle.std.specs.Prelude.{length}
use Rattle.std.proofs.Common.{sym, arith, rules}
use Rattle.std.proofs.lemmas.List.Sums.{position_or_len_is}
use Rattle.relay_metrics.specs.Durations.{is_within}
use Rattle.relay_metrics.proofs.durations.bound_place.Goals as goal

pub returns-then-is_within-clause-first : goal.returns-then-is_within-clause-first
returns-then-is_within-clause-first c =
    sym (position_or_len_is (is_within c.args.ns) c.args.bounds_ms.now c.loop-place.place 0 (search rules)
    (λ k lt. c.loop-place.invariant k 0 lt) (λ lt. search rules))

pub returns-clause-first : goal.returns-clause-first
returns-clause-first c =
    sym (position_or_len_is (is_within c.args.ns) c.args.bounds_ms.now (length c.args.bounds_ms.now) 0 (search rules)
    (λ k lt. c.loop-place.invariant k 0 (omega (arith, lt, c.loop-place-test.false))) (λ lt. absurd (omega arith)))
