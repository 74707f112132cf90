-- What is known at an address, by where it is found.
use Rattle.std.proofs.Common.{◌≡◌, ◌∙◌, List, Option, Some, None, ap}
use Rattle.std.specs.Option.{option_and_then, option_or}
use Rattle.std.specs.declared.alloc.Global.{Global}
use Rattle.std.specs.declared.sync.Arc.{Arc}
use Rattle.relay_admin.specs.declared.rules.addr.Addr.{Addr}
use Rattle.relay_facts.specs.KnownTargets.{counted_at, listed_at, listed_before, known_at}
use Rattle.relay_facts.specs.declared.target_list.CountedTarget.{CountedTarget}
use Rattle.relay_facts.specs.declared.target_list.Targets.{Targets}

module _ (made : List CountedTarget) (at : Addr) where
  pub of_made : (before : Option Targets) (one : CountedTarget) → Some one ≡ listed_at at made → Some one ≡ counted_at made before at
  of_made before one is = ap (λ (found : Option CountedTarget). option_or found (listed_before at before)) is

  pub of_none : None ≡ listed_at at made → None ≡ counted_at made None at
  of_none none = ap (λ (found : Option CountedTarget). option_or found None) none

  pub of_before : (list : Targets) (found : Option CountedTarget) → None ≡ listed_at at made → found ≡ listed_at at list.all.items
      → found ≡ counted_at made (Some list) at
  of_before list found none is = is ∙ ap (λ (one : Option CountedTarget). option_or one (listed_at at list.all.items)) none

  pub known_none : (before : Option Targets) → None ≡ counted_at made before at → None ≡ known_at made before at
  known_none before none = ap (λ (found : Option CountedTarget). option_and_then (λ (one : CountedTarget). one.health) found) none

  pub known_of : (before : Option Targets) (one : CountedTarget) → Some one ≡ counted_at made before at → one.health ≡ known_at made before at
  known_of before one is = ap (λ (found : Option CountedTarget). option_and_then (λ (one : CountedTarget). one.health) found) is
