use Rattle.std.proofs.Common.{◌∙◌, refl, sym, ap, arith}
use Rattle.std.specs.Prelude.{option_map}
use Rattle.std.proofs.lemmas.Option.{slice_get-map, slice_get_read}
use Rattle.relay_facts.specs.Targets.{target_of, targets_of}
use Rattle.relay_facts.proofs.FiguresLemmas.{one_more, passed_over}
use Rattle.relay_facts.proofs.target_list.Targets.add_figures.Goals as goal

-- its address is told of already
pub loop-place-preserved-then-is_repeated : goal.loop-place-preserved-then-is_repeated
loop-place-preserved-then-is_repeated c =
    passed_over c.args.rule.bytes (targets_of c.args.self.now) c.args.figures.now.items c.loop-place.figures.items c.loop-place.place
    c.loop-place.invariant (sym c.is_repeated.ensures ∙ c.if-is_repeated.true)

-- it is told of behind
pub loop-place-preserved : goal.loop-place-preserved
loop-place-preserved c =
    let all = c.args.self.now.all.items in let test = c.loop-place-test.true in let len = c.len-place-end.ensures in
    let there = slice_get_read all _ c.loop-place.place c.index.result.now refl (omega (arith, test, len)) c.index.ensures in
    one_more c.args.rule.bytes (targets_of c.args.self.now) c.args.figures.now.items c.loop-place.figures.items c.push.new.self.items
    c.loop-place.place c.figures_of.result c.index.result.now.target c.loop-place.invariant
    (sym c.is_repeated.ensures ∙ c.if-is_repeated.false)
    (slice_get-map target_of all c.loop-place.place ∙ ap (option_map target_of) there)
    (cc) c.figures_of.ensures.target c.in_ok-push.ensures.items
