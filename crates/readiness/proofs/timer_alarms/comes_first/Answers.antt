use Rattle.std.proofs.Common.{rules, refl, ap, sym, ◌∙◌}
use Rattle.std.specs.FinMap.{get, get-empty}
use Rattle.readiness.proofs.timer_alarms.comes_first.Goals as goal

pub returns-in-None : goal.returns-in-None
returns-in-None g c = (
  (λ _ slot moment armed.
      let none = sym armed ∙ ap (λ m. get m slot) c.in-None.ensures.none ∙ get-empty _ slot in
      search (rules, none)),
  (λ _. refl),
)
