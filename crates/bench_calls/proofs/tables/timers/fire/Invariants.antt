use Rattle.std.proofs.Common.{◌≡◌}
use Rattle.std.specs.FinMap.{empty}
use Rattle.bench_calls.proofs.tables.timers.fire.Given as goal

-- without a key no timer is armed
abbrev pub invariant-loop-round : goal.invariant-loop-round
invariant-loop-round l = l.count ≡ 0 → l.timers ≡ empty

abbrev pub invariant-loop-key : goal.invariant-loop-key
invariant-loop-key l = l.count ≡ 0 → l.timers ≡ empty

-- and none comes
abbrev pub invariant-loop : goal.invariant-loop
invariant-loop l = l.count ≡ 0 → (l.sum ≡ 0) × (l.timers ≡ empty)

abbrev pub invariant-loop-key-2 : goal.invariant-loop-key-2
invariant-loop-key-2 l = l.count ≡ 0 → l.sum ≡ 0
