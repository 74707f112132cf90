use Rattle.std.proofs.Common.{◌≡◌, ◌∙◌, ap, ℕ, ◌<◌, List, [], ◌++◌, length, take, map, min, arith}
use Rattle.std.specs.Borrow.{Bor}
use Rattle.std.specs.List.{flat_map, zip}
use Rattle.std.proofs.lemmas.Grind.{common_steps}
use Rattle.std.proofs.lemmas.List.{length-map, get_or-map}
use Rattle.relay_metrics.specs.Text.{causes_text, counted_text}
use Rattle.relay_metrics.proofs.CauseLemmas.{front_more, front_whole}
use Rattle.relay_metrics.proofs.rule_text.write_causes.Goals as goal

abbrev words_of : List (Bor (List ℕ)) → List (List ℕ)
words_of causes = map (λ cause. cause.now) causes

pub loop-place-preserved : goal.loop-place-preserved
loop-place-preserved g c =
    let causes = c.args.causes.now in
    let place = c.loop-place.place in
    let least = c.min-place-end.ensures in
    let here : place < length causes = omega (arith, c.loop-place-test.true, least) in
    let there : place < length c.args.counts.now = omega (arith, c.loop-place-test.true, least) in
    let long : length (words_of causes) ≡ length causes = length-map causes (λ cause. cause.now) in
    let within : place < length (words_of causes) = omega (arith, here, long) in
    let one = get_or-map (λ (cause : Bor (List ℕ)). cause.now) causes place
    (record { ref_ptr = (0, 0); now = [] }) [] here in
    let more = front_more c.args.family c.args.rule.now (words_of causes) c.args.counts.now place within there in
    grind (arith, common_steps, one, more)

pub returns : goal.returns
unfolding causes_text
returns g c =
    let causes = c.args.causes.now in
    let counts = c.args.counts.now in
    let of_each = counted_text c.args.family c.args.rule.now in
    let long : length (words_of causes) ≡ length causes = length-map causes (λ cause. cause.now) in
    let last : c.loop-place.place ≡ min (length (words_of causes)) (length counts) =
    omega (arith, c.loop-place.auto.place-end, c.loop-place-test.false, c.min-place-end.ensures, long) in
    let all = ap (λ (p : ℕ). flat_map of_each (take p (zip (words_of causes) counts))) last
    ∙ ap (flat_map of_each) (front_whole (words_of causes) counts) in
    c.loop-place.invariant ∙ ap (λ (text : List ℕ). c.args.into.now.items ++ text) all
