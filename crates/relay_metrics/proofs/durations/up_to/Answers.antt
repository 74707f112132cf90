use Rattle.std.proofs.Common.{◌≡◌, ◌∙◌, ◌-◌, ◌^◌, List, ℕ, ap, length, min, sym, subst, arith, ◌≤◌}
use Rattle.std.specs.List.{sum}
use Rattle.std.proofs.lemmas.List.{take_min}
use Rattle.relay_metrics.specs.Durations.{up_to}
use Rattle.relay_metrics.proofs.BucketLemmas.{up_to-rises}
use Rattle.relay_metrics.proofs.durations.up_to.Goals as goal

pub returns-clause-rises : goal.returns-clause-rises
returns-clause-rises c fewer within =
    let counts = c.args.counts.now in
    let last : c.loop-place.place ≡ min c.args.places (length counts) =
    omega (arith, c.loop-place.auto.place-end, c.loop-place-test.false, c.min-place-end.ensures) in
    let all : up_to counts c.loop-place.place ≡ up_to counts c.args.places =
    ap (up_to counts) last ∙ ap (λ (some : List ℕ). min (sum some) (2 ^ 64 - 1)) (take_min c.args.places counts) in
    subst (λ (n : ℕ). up_to counts fewer ≤ n) (sym (c.loop-place.invariant ∙ all)) (up_to-rises counts fewer c.args.places within)
