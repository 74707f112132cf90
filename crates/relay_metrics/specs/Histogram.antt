-- How durations are spelled: a histogram, as Prometheus has it.
use Rattle.std.specs.Prelude.{ℕ, ◌+◌, ◌/◌, ◌%◌, ◌==◌, List, [], ◌∷◌, ◌++◌, Option, Some, None, codes, length, if◌then◌else◌}
use Rattle.std.specs.Fmt.{decimal}
use Rattle.relay_metrics.specs.declared.family.Family.{Family}
use Rattle.relay_metrics.specs.Durations.{up_to}
use Rattle.relay_metrics.specs.Family.{name_text}
use Rattle.relay_metrics.specs.Sample.{digit, label_text, value_text}

-- the digits of milliseconds behind the point of seconds, without zeros at their end; and no point where none is left
unfoldable pub fraction_text : ℕ → List ℕ
fraction_text ms =
    if ms % 1000 == 0 then []
    else if ms % 100 == 0 then 46 ∷ digit (ms / 100) ∷ []
    else if ms % 10 == 0 then 46 ∷ digit (ms / 100) ∷ digit (ms / 10) ∷ []
    else 46 ∷ digit (ms / 100) ∷ digit (ms / 10) ∷ digit ms ∷ []

-- a bound of so many milliseconds in seconds; none is infinite
unfoldable pub bound_text : Option ℕ → List ℕ
bound_text None = codes "+Inf"
bound_text (Some ms) = decimal (ms / 1000) ++ fraction_text ms

-- microseconds as seconds, with six digits behind the point
unfoldable pub micros_text : ℕ → List ℕ
micros_text us = decimal (us / 1000000)
    ++ 46 ∷ digit (us / 100000) ∷ digit (us / 10000) ∷ digit (us / 1000) ∷ digit (us / 100) ∷ digit (us / 10) ∷ digit us ∷ []

-- a figure of one part of a histogram of a rule, up to what stands behind the rule's name
unfoldable pub part_text : Family → List ℕ → List ℕ → List ℕ
part_text f part rule = name_text f ++ (part ++ 123 ∷ label_text (codes "rule") rule)

-- how many are no longer than a bound
unfoldable pub bucket_text : Family → List ℕ → Option ℕ → ℕ → List ℕ
bucket_text f rule bound_ms n = part_text f (codes "_bucket") rule
    ++ 44 ∷ (label_text (codes "le") (bound_text bound_ms) ++ 125 ∷ value_text (decimal n))

-- the sum, in seconds
unfoldable pub sum_text : Family → List ℕ → ℕ → List ℕ
sum_text f rule us = part_text f (codes "_sum") rule ++ 125 ∷ value_text (micros_text us)

-- how many there are
unfoldable pub count_text : Family → List ℕ → ℕ → List ℕ
count_text f rule n = part_text f (codes "_count") rule ++ 125 ∷ value_text (decimal n)

-- the buckets of bounds, of which the first has this place: each has all that have its place or one ahead
unfoldable pub buckets_from : Family → List ℕ → List ℕ → ℕ → List ℕ → List ℕ
buckets_from f rule counts place [] = []
buckets_from f rule counts place (bound_ms ∷ bounds_ms) =
    bucket_text f rule (Some bound_ms) (up_to counts (place + 1)) ++ buckets_from f rule counts (place + 1) bounds_ms

-- how many there are in all
abbrev pub count_of_all : List ℕ → ℕ
count_of_all counts = up_to counts (length counts)

-- a histogram of a rule: the bucket without a bound and the count have all
unfoldable pub histogram_text : Family → List ℕ → List ℕ → List ℕ → ℕ → List ℕ
histogram_text f rule bounds_ms counts sum_us = buckets_from f rule counts 0 bounds_ms
    ++ (bucket_text f rule None (count_of_all counts)
    ++ (sum_text f rule sum_us ++ count_text f rule (count_of_all counts)))
