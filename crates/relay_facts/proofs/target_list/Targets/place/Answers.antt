use Rattle.std.proofs.Common.{◌∙◌, ap, sym, subst}
use Rattle.std.specs.List.{list_any}
use Rattle.relay_facts.specs.Targets.{AreSeen, are_checked, is_seen_down, targets_of}
use Rattle.relay_facts.proofs.TargetsLemmas.{none_left, taken_untried, taken_within}
use Rattle.relay_facts.proofs.target_list.Targets.place.Goals as goal

pub returns-in-None-clause-none : goal.returns-in-None-clause-none
returns-in-None-clause-none c =
    none_left (are_checked c.args.self.now) (targets_of c.args.self.now) c.args.tried c.as_slice.result.now c.some_down.result
    (subst (λ s. AreSeen (are_checked c.args.self.now) (targets_of c.args.self.now) c.args.tried s) (sym c.as_slice.ensures.value) c.seen-seen.ensures)
    c.in-None.ensures.none
    (c.some_down.ensures ∙ ap (list_any is_seen_down) (c.as_slice-in-None.ensures.value ∙ sym c.as_slice.ensures.value))

pub returns-in-Some-clause-within : goal.returns-in-Some-clause-within
returns-in-Some-clause-within c =
    taken_within (are_checked c.args.self.now) c.args.self.now.all.items c.args.tried c.as_slice.result.now
    (subst (λ s. AreSeen (are_checked c.args.self.now) (targets_of c.args.self.now) c.args.tried s) (sym c.as_slice.ensures.value) c.seen-seen.ensures)
    c.in-Some.place c.in-Some.ensures.takes

pub returns-in-Some-clause-untried : goal.returns-in-Some-clause-untried
returns-in-Some-clause-untried c =
    taken_untried (are_checked c.args.self.now) c.args.self.now.all.items c.args.tried c.as_slice.result.now
    (subst (λ s. AreSeen (are_checked c.args.self.now) (targets_of c.args.self.now) c.args.tried s) (sym c.as_slice.ensures.value) c.seen-seen.ensures)
    c.in-Some.place c.in-Some.ensures.takes
