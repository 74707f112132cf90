-- The bucket of one bound more, and the durations of one place more.
use Rattle.std.proofs.Common.{◌≡◌, ◌≤◌, ◌<◌, ℕ, ◌+◌, ◌-◌, ◌^◌, List, [], ◌∷◌, ◌++◌, length, min, take, get_or, ap, arith}
use Rattle.std.specs.Prelude.{Some}
use Rattle.std.specs.List.{sum}
use Rattle.std.proofs.lemmas.Grind.{common_steps}
use Rattle.std.proofs.lemmas.List.{take-take, take_more}
use Rattle.std.proofs.lemmas.List.Sums.{sum_by-take-le, sum_by_more}
use Rattle.relay_metrics.specs.declared.family.Family.{Family}
use Rattle.relay_metrics.specs.Durations.{up_to}
use Rattle.relay_metrics.specs.Histogram.{bucket_text, buckets_from}

-- the bucket of the bound at a place
abbrev pub one_bucket : Family → List ℕ → List ℕ → ℕ → ℕ → List ℕ
one_bucket f rule counts place bound_ms = bucket_text f rule (Some bound_ms) (up_to counts (place + 1))

pub buckets_from-end : (f : Family) (rule counts : List ℕ) (place : ℕ) (bounds : List ℕ) (bound : ℕ) →
    buckets_from f rule counts place (bounds ++ bound ∷ [])
    ≡ buckets_from f rule counts place bounds ++ one_bucket f rule counts (place + length bounds) bound
unfolding buckets_from
buckets_from-end f rule counts place [] bound = grind (arith, common_steps)
buckets_from-end f rule counts place (first ∷ bounds) bound =
    let rest = buckets_from-end f rule counts (place + 1) bounds bound in grind (arith, common_steps, rest)

pub buckets_from-more : (f : Family) (rule counts bounds : List ℕ) (place : ℕ) → place < length bounds →
    buckets_from f rule counts 0 (take (place + 1) bounds)
    ≡ buckets_from f rule counts 0 (take place bounds) ++ one_bucket f rule counts place (get_or bounds place 0)
buckets_from-more f rule counts bounds place within =
    let more = take_more bounds place 0 within in
    let end = buckets_from-end f rule counts 0 (take place bounds) (get_or bounds place 0) in
    grind (arith, common_steps, more, end)

-- the durations of one place more
pub up_to-more : (counts : List ℕ) (place : ℕ) → place < length counts →
    up_to counts (place + 1) ≡ min (up_to counts place + get_or counts place 0) (2 ^ 64 - 1)
up_to-more counts place within =
    let more = sum_by_more (λ n. n) counts place 0 within in omega (arith, more)

-- more places have no fewer durations
pub up_to-rises : (counts : List ℕ) (fewer places : ℕ) → fewer ≤ places → up_to counts fewer ≤ up_to counts places
up_to-rises counts fewer places within =
    let part = sum_by-take-le (λ n. n) (take places counts) fewer in
    let same = ap sum (take-take fewer places counts within) in
    omega (arith, part, same)
