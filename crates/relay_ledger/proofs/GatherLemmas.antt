-- Sums over the credits of shares.
use Rattle.std.proofs.Common.{◌≡◌, ◌∙◌, sym, ap, refl, ℕ, ◌+◌, List, [], ◌∷◌, ◌++◌, length, arith, length-append}
use Rattle.std.specs.Prelude.{All, sum, sum_by}
use Rattle.std.proofs.lemmas.Grind.{common_steps}
use Rattle.std.proofs.lemmas.List.Elements.{All-nil, All-cons, All-head, All-tail, All-push}
use Rattle.relay_ledger.specs.Conservation.{Credited, opened_share, credited_share, credits_of, HasItsCredits}
use Rattle.relay_ledger.specs.Conservation.{empty, opened, credited, settled, CreditsAreConserved}

-- one number more at the end adds itself to a sum
sum-push : (xs : List ℕ) (n : ℕ) → sum (xs ++ n ∷ []) ≡ sum xs + n
sum-push xs n = grind (arith, common_steps)

-- a share without credits adds nothing
sums-push : (shares : List Credited) → sum_by credits_of (shares ++ opened_share ∷ []) ≡ sum_by credits_of shares
sums-push shares = grind (arith, common_steps)

-- a share in a list adds its credits to the sum
sums-without : (before after : List Credited) (share : Credited)
    → sum_by credits_of (before ++ share ∷ after) ≡ sum_by credits_of (before ++ after) + credits_of share
sums-without before after share = grind (arith, common_steps)

-- a share more adds its credits to the sum
sums-with : (share : Credited) (others : List Credited)
    → sum_by credits_of (share ∷ others) ≡ sum_by credits_of others + credits_of share
sums-with share others = grind (arith, common_steps)

-- a list without one of its elements is one shorter
length-without : {A : Type 0} (before after : List A) (a : A)
    → length (before ++ a ∷ after) ≡ length (before ++ after) + 1
length-without before after a = grind (arith, common_steps)

module _ {A : Type 0} (P : A → Type 0) where
  -- what holds of all holds of one among them
  all-among : (before after : List A) (a : A) → All P (before ++ a ∷ after) → P a
  all-among [] after a all = All-head P a after all
  all-among (b ∷ before) after a all = all-among before after a (All-tail P b (before ++ a ∷ after) all)

  -- what holds of all holds of the others
  all-without : (before after : List A) (a : A) → All P (before ++ a ∷ after) → All P (before ++ after)
  all-without [] after a all = All-tail P a after all
  all-without (b ∷ before) after a all =
      All-cons P b (before ++ after) (All-head P b (before ++ a ∷ after) all)
      (all-without before after a (All-tail P b (before ++ a ∷ after) all))

  -- what holds of the others and of one holds of all
  all-with : (before after : List A) (a : A) → P a → All P (before ++ after) → All P (before ++ a ∷ after)
  all-with [] after a is others = All-cons P a after is others
  all-with (b ∷ before) after a is others =
      All-cons P b (before ++ a ∷ after) (All-head P b (before ++ after) others)
      (all-with before after a is (All-tail P b (before ++ after) others))

pub credits_are_conserved : CreditsAreConserved
credits_are_conserved book [] [] (empty total none nothing) =
    (total, nothing, none, All-nil HasItsCredits, All-nil HasItsCredits)
credits_are_conserved book _ others (opened {old} {new} {held} was opens) =
    let before = credits_are_conserved old held others was in
    let longer = length-append held (opened_share ∷ []) in (
      ap (λ a. a.total) opens ∙ before.0 ∙ sym (ap (λ n. n + sum_by credits_of others) (sums-push held)),
      ap (λ a. a.settled) opens ∙ before.1,
      ap (λ a. a.opened) opens ∙ omega (arith, before.2, longer),
      All-push HasItsCredits held opened_share before.3 refl,
      before.4,
    )
credits_are_conserved book _ others (credited {old} {new} front back share n was adds) =
    let before = credits_are_conserved old (front ++ share ∷ back) others was in
    let now = credited_share share n in
    let less = sums-without front back share in
    let more = sums-without front back now in
    let grown = sum-push share.credits n in
    let shorter = length-without front back share in
    let longer = length-without front back now in
    let its : HasItsCredits share = all-among HasItsCredits front back share before.3 in (
      ap (λ a. a.total) adds ∙ omega (arith, before.0, less, more, grown),
      ap (λ a. a.settled) adds ∙ before.1,
      ap (λ a. a.opened) adds ∙ omega (arith, before.2, shorter, longer),
      all-with HasItsCredits front back now (omega (arith, its, grown))
          (all-without HasItsCredits front back share before.3),
      before.4,
    )
credits_are_conserved book _ _ (settled {old} {new} {settled = others} front back share was settles) =
    let before = credits_are_conserved old (front ++ share ∷ back) others was in
    let less = sums-without front back share in
    let more = sums-with share others in
    let shorter = length-without front back share in
    let its : HasItsCredits share = all-among HasItsCredits front back share before.3 in (
      ap (λ a. a.total) settles ∙ omega (arith, before.0, less, more),
      ap (λ a. a.settled) settles ∙ omega (arith, before.1, more, its),
      ap (λ a. a.opened) settles ∙ omega (arith, before.2, shorter),
      all-without HasItsCredits front back share before.3,
      All-cons HasItsCredits share others its before.4,
    )
