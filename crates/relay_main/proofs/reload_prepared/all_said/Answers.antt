use Rattle.std.proofs.Common.{refl, length, arith, rules}
use Rattle.std.proofs.lemmas.Option.{slice_get_read}
use Rattle.relay_main.proofs.ReloadLemmas.{all_are_said, one_more_said}
use Rattle.relay_main.proofs.reload_prepared.all_said.Goals as goal

pub loop-rule-preserved : goal.loop-rule-preserved
loop-rule-preserved g c =
    let many = c.loop-rule.invariant.count in
    record {
      count = let more = c.in_ok-push.ensures.len in omega (arith, more, many);
      each = one_more_said c.args.rules.now c.loop-rule.all.items c.push.new.self.items c.loop-rule.rule-index
          c.rule-item.result c.in_ok-said_of.field-0 many c.loop-rule.invariant.each c.in_ok-push.ensures.items
          (slice_get_read c.args.rules.now (length c.args.rules.now) c.loop-rule.rule-index c.rule-item.result
          refl (omega (arith, c.loop-rule-test.true)) (search rules))
          c.in_ok-said_of.ensures.said;
    }

pub returns-clause-said : goal.returns-clause-said
returns-clause-said g c =
    let test = c.loop-rule-test.false in let within = c.loop-rule.auto.rule-index-end in
    all_are_said c.args.rules.now c.loop-rule.all.items c.loop-rule.rule-index c.loop-rule.invariant.count
    c.loop-rule.invariant.each (omega (arith, test, within))
