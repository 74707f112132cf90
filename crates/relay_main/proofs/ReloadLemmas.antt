-- What is said of each rule before a place, through one more.
use Rattle.std.proofs.Common.{◌≡◌, ◌∙◌, ◌<◌, ℕ, zero, suc, List, [], ◌∷◌, ◌++◌, Some, refl, sym, ap, subst, inl, inr, length, arith}
use Rattle.std.specs.Prelude.{◌+◌, slice_get}
use Rattle.std.specs.Arc.{arc_value}
use Rattle.std.specs.declared.alloc.Global.{Global}
use Rattle.std.specs.declared.sync.Arc.{Arc}
use Rattle.std.proofs.lemmas.Bool.{cases_eq}
use Rattle.relay_facts.specs.Config.{SaysRule}
use Rattle.relay_facts.specs.declared.served_rule.Said.{Said}
use Rattle.relay_main.specs.Reload.{SayRules}
use Rattle.relay_settings.specs.declared.targets.SaidRule.{SaidRule}

module _ {X : Type 0} where
  within_of : (xs : List X) (k : ℕ) (x : X) → slice_get xs k ≡ Some x → k < length xs
  within_of [] k x is = absurd (cc)
  within_of (y ∷ xs) zero x is = omega arith
  within_of (y ∷ xs) (suc k) x is = let rest = within_of xs k x is in omega (arith, rest)

  before_end : (xs : List X) (x : X) (k : ℕ) → k < length xs → slice_get (xs ++ x ∷ []) k ≡ slice_get xs k
  before_end [] x k within = absurd (omega (arith, within))
  before_end (y ∷ xs) x zero within = refl
  before_end (y ∷ xs) x (suc k) within = before_end xs x k (omega (arith, within))

  at_end : (xs : List X) (x : X) → slice_get (xs ++ x ∷ []) (length xs) ≡ Some x
  at_end [] x = refl
  at_end (y ∷ xs) x = at_end xs x

-- the rules of the first places are said
abbrev AreSaidBelow : List SaidRule → List (Arc Said Global) → ℕ → Type 0
AreSaidBelow rules all count = (k : ℕ) (rule : SaidRule) (said : Arc Said Global) → k < count
    → slice_get rules k ≡ Some rule → slice_get all k ≡ Some said → SaysRule rule (arc_value said)

-- one more is
pub one_more_said : (rules : List SaidRule) (all new : List (Arc Said Global)) (count : ℕ) (rule : SaidRule) (said : Arc Said Global)
    → length all ≡ count → AreSaidBelow rules all count → new ≡ all ++ said ∷ []
    → slice_get rules count ≡ Some rule → SaysRule rule (arc_value said) → AreSaidBelow rules new (count + 1)
one_more_said rules all new count rule said many below is at_count told = λ k other last within there here.
    elim (cases_eq k count) as (λ found. SaysRule other (arc_value last)) [
      | inl same ↦
          let its : Some other ≡ Some rule = sym there ∙ ap (slice_get rules) same ∙ at_count in
          let other_is : other ≡ rule = cc in
          let has : Some last ≡ Some said =
          sym here ∙ ap (λ (l : List (Arc Said Global)). slice_get l k) is ∙ ap (slice_get (all ++ said ∷ [])) (same ∙ sym many) ∙ at_end all said in
          let last_is : last ≡ said = cc in
          subst (λ (r : SaidRule). SaysRule r (arc_value last)) (sym other_is)
          (subst (λ (s : Arc Said Global). SaysRule rule (arc_value s)) (sym last_is) told)
      | inr apart ↦
          below k other last (omega (arith, within, apart)) there
          (sym (before_end all said k (omega (arith, within, apart, many)))
          ∙ ap (λ (l : List (Arc Said Global)). slice_get l k) (sym is) ∙ here)
    ]

-- all are
pub all_are_said : (rules : List SaidRule) (all : List (Arc Said Global)) (count : ℕ) → length all ≡ count
    → AreSaidBelow rules all count → count ≡ length rules → SayRules rules all
all_are_said rules all count many below whole = record {
  count = many ∙ whole;
  each = λ k rule said there here.
      below k rule said (let within = within_of all k said here in omega (arith, within, many)) there here;
}
