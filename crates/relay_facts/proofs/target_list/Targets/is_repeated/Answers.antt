use Rattle.std.proofs.Common.{◌∙◌, ap, sym, rules}
use Rattle.std.specs.Prelude.{slice_get}
use Rattle.relay_facts.proofs.FiguresLemmas.{found_at, repeated}
use Rattle.relay_facts.proofs.target_list.Targets.is_repeated.Goals as goal

pub returns : goal.returns
returns c =
    let place = c.args.place in
    repeated c.args.self.now.all.items _ place c.in-Some.counted.now c.some_at.result c.some_at.ensures (search rules)
    (sym (ap (λ all. slice_get all place) c.deref.ensures.value)
    ∙ found_at c.deref.result.now place c.get.result c.in-Some.counted c.get.ensures.lookup c.in-Some.is)
