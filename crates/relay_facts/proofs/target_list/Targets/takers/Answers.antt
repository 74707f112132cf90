use Rattle.std.proofs.Common.{refl, sym, subst}
use Rattle.std.specs.List.{list_any}
use Rattle.relay_facts.specs.Targets.{AreSeen, are_checked, is_seen_down, targets_of}
use Rattle.relay_facts.proofs.TargetsLemmas.{none_left}
use Rattle.relay_facts.proofs.target_list.Targets.takers.Goals as goal

pub returns : goal.returns
returns c = λ none. (
  list_any is_seen_down c.as_slice.result.now,
  none_left (are_checked c.args.self.now) (targets_of c.args.self.now) c.args.tried c.as_slice.result.now (list_any is_seen_down c.as_slice.result.now)
      (subst (λ s. AreSeen (are_checked c.args.self.now) (targets_of c.args.self.now) c.args.tried s) (sym c.as_slice.ensures.value) c.seen.ensures)
      (c.takers.ensures.none none) refl,
)
