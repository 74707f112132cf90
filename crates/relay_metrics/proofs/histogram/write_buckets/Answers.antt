use Rattle.std.proofs.Common.{arith}
use Rattle.std.proofs.lemmas.Grind.{common_steps}
use Rattle.relay_metrics.specs.Histogram.{buckets_from}
use Rattle.relay_metrics.proofs.BucketLemmas.{buckets_from-more}
use Rattle.relay_metrics.proofs.histogram.write_buckets.Goals as goal

pub loop-place-init : goal.loop-place-init
unfolding buckets_from
loop-place-init g c = grind (arith, common_steps)

pub loop-place-preserved : goal.loop-place-preserved
loop-place-preserved g c =
    let more = buckets_from-more c.args.family c.args.rule.now c.args.counts.now c.args.bounds_ms.now
    c.loop-place.place c.loop-place-test.true in
    grind (arith, common_steps, more)
