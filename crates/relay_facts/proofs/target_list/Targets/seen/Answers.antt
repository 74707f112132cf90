use Rattle.std.proofs.Common.{refl, subst, arith}
use Rattle.std.proofs.lemmas.Option.{slice_get_read}
use Rattle.relay_facts.specs.Targets.{IsSeenAs, are_checked}
use Rattle.relay_facts.proofs.TargetsLemmas.{all_seen, one_more}
use Rattle.target_pick.specs.Tried.{was_tried}
use Rattle.relay_facts.proofs.target_list.Targets.seen.Goals as goal

pub loop-place-preserved : goal.loop-place-preserved
loop-place-preserved c =
    let many = c.loop-place.invariant.count in let test = c.loop-place-test.true in
    let all = c.args.self.now.all.items in let len = c.len-place-end.ensures in
    record {
      count = let more = c.push.ensures.len in omega (arith, more, many);
      each = one_more (are_checked c.args.self.now) all c.args.tried c.loop-place.seen.items c.push.new.self.items c.loop-place.place c.index.result.now c.seen_as.result
          many c.loop-place.invariant.each c.push.ensures.items
          (slice_get_read all _ c.loop-place.place c.index.result.now refl (omega (arith, test, len)) c.index.ensures)
          (subst (λ b. IsSeenAs b (was_tried c.args.tried c.loop-place.place) c.index.result.now.target c.seen_as.result) c.is_checked-is_checked.ensures
          (subst (λ b. IsSeenAs c.is_checked-is_checked.result b c.index.result.now.target c.seen_as.result) c.has.ensures c.seen_as.ensures));
    }

pub returns : goal.returns
returns c =
    let test = c.loop-place-test.false in let len = c.len-place-end.ensures in let end = c.loop-place.auto.place-end in
    let many = c.loop-place.invariant.count in
    all_seen (are_checked c.args.self.now) c.args.self.now.all.items c.args.tried c.loop-place.seen.items c.loop-place.place many c.loop-place.invariant.each
    (omega (arith, test, len, end))
