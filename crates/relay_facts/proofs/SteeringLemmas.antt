-- The first target that a word names.
use Rattle.std.proofs.Common.{◌≡◌, ◌∙◌, ◌<◌, ◌≤◌, ◌+◌, ℕ, true, false, List, [], ◌∷◌, Option, Some, None, length, sym, ap, subst, inl, inr, arith}
use Rattle.std.specs.Prelude.{slice_get}
use Rattle.std.proofs.lemmas.Bool.{cases_eq}
use Rattle.relay_facts.proofs.TargetsLemmas.{within_of}
use Rattle.relay_facts.specs.Steering.{names}
use Rattle.relay_settings.specs.declared.targets.Target.{Target}

-- the word names none of the targets at the first places
abbrev pub NamesNoneBelow : List ℕ → List Target → ℕ → Type 0
NamesNoneBelow word targets count = (at : ℕ) (target : Target) → at < count → slice_get targets at ≡ Some target
    → names word at target ≡ false

-- nor the next one
pub none_more : (word : List ℕ) (targets : List Target) (count : ℕ) (next : Target) → NamesNoneBelow word targets count
    → slice_get targets count ≡ Some next → names word count next ≡ false → NamesNoneBelow word targets (count + 1)
none_more word targets count next below there unnamed = λ at target within here.
    elim (cases_eq at count) as (λ found. names word at target ≡ false) [
      | inl same ↦
          let its : Some target ≡ Some next = sym here ∙ ap (slice_get targets) same ∙ there in
          let is : target ≡ next = cc in
          subst (λ (p : ℕ). names word p target ≡ false) (sym same)
          (subst (λ (t : Target). names word count t ≡ false) (sym is) unnamed)
      | inr apart ↦ below at target (omega (arith, within, apart)) here
    ]

-- so it names none of all
pub none_of_all : (word : List ℕ) (targets : List Target) (count : ℕ) → NamesNoneBelow word targets count
    → length targets ≤ count → (at : ℕ) (target : Target) → slice_get targets at ≡ Some target
    → names word at target ≡ false
none_of_all word targets count below all at target here =
    let within = within_of targets at target here in
    below at target (omega (arith, within, all)) here
