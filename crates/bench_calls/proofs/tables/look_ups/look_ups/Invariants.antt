use Rattle.std.proofs.Common.{◌≡◌, ◌≤◌, [], length}
use Rattle.bench_calls.proofs.tables.look_ups.look_ups.Given as goal

-- each value so far has an entry
abbrev pub invariant-loop-value : goal.invariant-loop-value
invariant-loop-value l =
    (length l.table.entries ≡ l.value) × (l.value ≤ 4096) × (l.count ≡ 0 → l.given.items ≡ [])

-- nothing is looked up, or there is nothing to look up
abbrev pub invariant-loop : goal.invariant-loop
invariant-loop l = (l.times ≡ 0 → l.sum ≡ 0) × (l.count ≡ 0 → l.counter ≡ 0)
