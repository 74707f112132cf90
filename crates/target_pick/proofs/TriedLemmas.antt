-- A try leaves one place fewer that wasn't tried.
use Rattle.std.proofs.Common.{◌≡◌, ◌≢◌, ◌≤◌, ◌<◌, ◌+◌, ◌∙◌, ℕ, zero, suc, Bool, true, false, refl, sym, ap, subst, inl, inr, arith}
use Rattle.std.proofs.lemmas.Bool.{cases_eq}
use Rattle.target_pick.specs.Tried.{one_untried, untried, untried_below, was_tried}
use Rattle.target_pick.specs.declared.tried.Tried.{Tried}

module _ (old new : Tried) (place : ℕ) (before : was_tried old place ≡ false) (after : was_tried new place ≡ true)
    (others : (other : ℕ) → other ≢ place → was_tried new other ≡ was_tried old other) where
  -- below the place nothing has changed
  same_below : (count : ℕ) → count ≤ place → untried_below new count ≡ untried_below old count
  unfolding untried_below
  same_below zero within = refl
  same_below (suc count) within =
      let rest = same_below count (omega (arith, within)) in
      let apart : count ≢ place = λ same. omega (arith, within, same) in
      let one = ap one_untried (others count apart) in
      omega (arith, rest, one)

  one_fewer : (count : ℕ) → place < count → untried_below new count + 1 ≡ untried_below old count
  unfolding untried_below
  one_fewer zero within = absurd (omega (arith, within))
  one_fewer (suc count) within = elim (cases_eq count place) [
    | inl same ↦
        let rest = same_below count (omega (arith, same)) in
        let now : was_tried new count ≡ true = ap (was_tried new) same ∙ after in
        let then : was_tried old count ≡ false = ap (was_tried old) same ∙ before in
        let one = ap one_untried now in let other = ap one_untried then in
        omega (arith, rest, one, other)
    | inr apart ↦
        let rest = one_fewer count (omega (arith, within, apart)) in
        let one = ap one_untried (others count apart) in
        omega (arith, rest, one)
  ]

  pub fewer : place < 64 → untried new < untried old
  unfolding untried
  fewer within = let one = one_fewer 64 within in omega (arith, one)
