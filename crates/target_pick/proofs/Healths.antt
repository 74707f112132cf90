-- What runs of outcomes do.
use Rattle.std.proofs.Common.{◌≡◌, ◌∙◌, sym, ap, refl, ℕ, ◌+◌, ◌≤◌, ◌<◌, Bool, true, false, ◌&&◌, List, [], ◌∷◌, min, arith, inl, inr, le-leb, lt-ltb, le-ltb}
use Rattle.std.specs.Prelude.{◌||◌, ◌⊎◌, nat_le, nat_lt}
use Rattle.std.proofs.lemmas.Bool.{cases_lt, lt-leb}
use Rattle.std.proofs.lemmas.Bool.Decides.{nat_tests}
use Rattle.target_pick.specs.Health.{Stands, failures_of, is_up, passes_of, step}
use Rattle.target_pick.specs.declared.health.Health.{Health}
use Rattle.target_pick.specs.declared.health.Limits.{Limits}
use Rattle.target_pick.specs.declared.health.Outcome.{Outcome}
use Rattle.target_pick.specs.declared.health.Outcome.TheVariants.{Passed, Connected, Failed}

and_false : (b c : Bool) → c ≡ false → (b && c) ≡ false
and_false true c e = e
and_false false c e = refl

or_true : (b c : Bool) → c ≡ true → (b || c) ≡ true
or_true true c e = refl
or_true false c e = e

not_below : (m n : ℕ) → n ≤ m → nat_lt m n ≡ false
not_below m n h = grind (arith, nat_tests)

reaches : (m n : ℕ) → n ≤ m → nat_le n m ≡ true
reaches m n h = grind (arith, nat_tests)

pub failures_bring_down : (limits : Limits) (outcomes : List Outcome) → 0 < limits.fall
    → limits.fall ≤ failures_of outcomes → is_up limits outcomes ≡ false
failures_bring_down limits [] some h = absurd (omega arith)
failures_bring_down limits (Failed ∷ outcomes) some h =
    and_false (is_up limits outcomes) (nat_lt (1 + failures_of outcomes) limits.fall)
    (not_below (1 + failures_of outcomes) limits.fall h)
failures_bring_down limits (Passed ∷ outcomes) some h = absurd (omega arith)
failures_bring_down limits (Connected ∷ outcomes) some h = absurd (omega arith)

pub passes_bring_up : (limits : Limits) (outcomes : List Outcome) → 0 < limits.rise
    → limits.rise ≤ passes_of outcomes → is_up limits outcomes ≡ true
passes_bring_up limits [] some h = refl
passes_bring_up limits (Failed ∷ outcomes) some h = absurd (omega arith)
passes_bring_up limits (Passed ∷ outcomes) some h =
    or_true (is_up limits outcomes) (nat_le limits.rise (1 + passes_of outcomes))
    (reaches (1 + passes_of outcomes) limits.rise h)
passes_bring_up limits (Connected ∷ outcomes) some h = passes_bring_up limits outcomes some h

-- ---- One step

reached : (p m r : ℕ) → m ≡ min p r → nat_le r (min (m + 1) r) ≡ nat_le r (1 + p)
reached p m r e = by_cases (cases_lt (1 + p) r)
  where
    by_cases : (1 + p < r) ⊎ (r ≤ 1 + p) → nat_le r (min (m + 1) r) ≡ nat_le r (1 + p)
    by_cases (inl less) =
        let one : min (m + 1) r < r = omega arith in
        lt-leb r (min (m + 1) r) one ∙ sym (lt-leb r (1 + p) less)
    by_cases (inr more) =
        let one : r ≤ min (m + 1) r = omega arith in
        le-leb r (min (m + 1) r) one ∙ sym (le-leb r (1 + p) more)

fell : (f m r : ℕ) → m ≡ min f r → nat_lt (min (m + 1) r) r ≡ nat_lt (1 + f) r
fell f m r e = by_cases (cases_lt (1 + f) r)
  where
    by_cases : (1 + f < r) ⊎ (r ≤ 1 + f) → nat_lt (min (m + 1) r) r ≡ nat_lt (1 + f) r
    by_cases (inl less) =
        let one : min (m + 1) r < r = omega arith in
        lt-ltb (min (m + 1) r) r one ∙ sym (lt-ltb (1 + f) r less)
    by_cases (inr more) =
        let one : r ≤ min (m + 1) r = omega arith in
        le-ltb (min (m + 1) r) r one ∙ sym (le-ltb (1 + f) r more)

pub step_stands : (limits : Limits) (outcomes : List Outcome) (health : Health) (outcome : Outcome)
    → Stands limits outcomes health → Stands limits (outcome ∷ outcomes) (step limits health outcome)
step_stands limits outcomes health Passed stands =
    let passes = stands.passes in
    record {
      up =
          ap (λ (b : Bool). b || nat_le limits.rise (min (health.passes + 1) limits.rise)) stands.up
          ∙ ap (λ (b : Bool). is_up limits outcomes || b) (reached (passes_of outcomes) health.passes limits.rise passes);
      failures = omega arith;
      passes = omega arith;
    }
step_stands limits outcomes health Connected stands = record {
  up = stands.up;
  failures = omega arith;
  passes = stands.passes;
}
step_stands limits outcomes health Failed stands =
    let failures = stands.failures in
    record {
      up =
          ap (λ (b : Bool). b && nat_lt (min (health.failures + 1) limits.fall) limits.fall) stands.up
          ∙ ap (λ (b : Bool). is_up limits outcomes && b) (fell (failures_of outcomes) health.failures limits.fall failures);
      failures = omega arith;
      passes = omega arith;
    }
