use Rattle.std.proofs.Common.{◌≡◌, ◌∙◌, ◌<◌, ap, length, arith}
use Rattle.bench_calls.proofs.tables.NoTimers.{none_comes, none_are_left}
use Rattle.bench_calls.proofs.tables.timers.fire.Goals as goal

-- nothing comes, so there is nothing to add
pub loop-key-2-preserved : goal.loop-key-2-preserved
loop-key-2-preserved c none =
    let shown = c.as_slice-key-items.ensures.value in
    let inside = c.loop-key-2-test.true in
    let below : c.loop-key-2.key-index < length c.due.result.items = omega (arith, ap length shown, inside) in
    absurd (none_comes c.loop.timers _ c.due.result.items c.loop-key-2.key-index (c.loop.invariant none).1
    c.due.ensures.first below)

-- and nothing is left
pub loop-preserved : goal.loop-preserved
loop-preserved c none = (
  c.loop-key-2.invariant none,
  c.due.ensures.taken_out
      ∙ none_are_left c.loop.timers _ c.due.result.items (c.loop.invariant none).1 c.due.ensures.first,
)
