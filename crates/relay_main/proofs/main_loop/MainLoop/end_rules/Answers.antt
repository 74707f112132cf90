use Rattle.std.proofs.Common.{◌∙◌, refl, length, arith, rules}
use Rattle.std.proofs.lemmas.Option.{slice_get_read}
use Rattle.relay_main.proofs.EndingLemmas.{one_more_read}
use Rattle.relay_main.proofs.main_loop.MainLoop.end_rules.Goals as goal

pub loop-one-preserved : goal.loop-one-preserved
loop-one-preserved g c = record {
  ended = one_more_read _ _ _ _ _ c.one-item.result
      (slice_get_read c.args.listening.now (length c.args.listening.now) c.loop-one.one-index c.one-item.result
      refl (omega (arith, c.loop-one-test.true)) (search rules))
      c.end_rule.ensures.gone c.end_rule.ensures.others c.loop-one.invariant.ended;
  kept = c.end_rule.ensures.kept ∙ c.loop-one.invariant.kept;
  paths = c.end_rule.ensures.paths ∙ c.loop-one.invariant.paths;
}
