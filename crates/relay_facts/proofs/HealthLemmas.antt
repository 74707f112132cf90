-- The words of targets' health.
use Rattle.std.proofs.Common.{◌≡◌, ◌∙◌, ◌+◌, ◌&&◌, ℕ, zero, suc, Bool, true, false, List, [], ◌∷◌, nat_lt, refl, sym, subst, arith}
use Rattle.std.specs.Prelude.{min, replicate}
use Rattle.std.proofs.lemmas.Bool.Decides.{nat_tests}
use Rattle.relay_facts.specs.SharedHealth.{Follows, health_in, limits_in}
use Rattle.target_pick.specs.Health.{Stands, failures_of, is_up}
use Rattle.target_pick.specs.declared.health.Health.{Health}
use Rattle.target_pick.specs.declared.health.Limits.{Limits}
use Rattle.target_pick.specs.declared.health.Outcome.{Outcome}
use Rattle.target_pick.specs.declared.health.Outcome.TheVariants.{Connected, Failed}

-- so many failures are that many
failing : (n : ℕ) → failures_of (replicate n Failed) ≡ n
failing zero = refl
failing (suc n) = let rest = failing n in omega (arith, rest)

too_many : (n : ℕ) → nat_lt (1 + n) n ≡ false
too_many n = grind (arith, nat_tests)

and_false : (a b : Bool) → b ≡ false → (a && b) ≡ false
and_false true b is = is
and_false false b is = refl

-- outcomes that bring a target down, and leave none counted
abbrev fallen : Limits → List Outcome
fallen limits = Connected ∷ Failed ∷ replicate limits.fall Failed

fallen_down : (limits : Limits) → is_up limits (fallen limits) ≡ false
fallen_down limits =
    and_false (is_up limits (replicate limits.fall Failed)) (nat_lt (1 + failures_of (replicate limits.fall Failed)) limits.fall)
    (subst (λ (n : ℕ). nat_lt (1 + n) limits.fall ≡ false) (sym (failing limits.fall)) (too_many limits.fall))

-- a target with any state, of which no outcome is counted, has had some outcomes
pub anew : (limits : Limits) (up : Bool) (health : Health) → health.is_up ≡ up
    → health.failures ≡ min 0 limits.fall → health.passes ≡ min 0 limits.rise
    → (outcomes : List Outcome) × Stands limits outcomes health
anew limits true health is failures passes = ([], record { up = is; failures = failures; passes = passes })
anew limits false health is failures passes =
    (fallen limits, record { up = is ∙ sym (fallen_down limits); failures = failures; passes = passes })

-- a word with these limits and this health follows what the health does
pub follows : (word : ℕ) (limits : Limits) (health : Health) (outcomes : List Outcome) → limits_in word ≡ limits
    → health_in word ≡ health → Stands limits outcomes health → Follows outcomes word
follows word limits health outcomes same its stands =
    subst (λ (l : Limits). Stands l outcomes (health_in word)) (sym same)
    (subst (λ (h : Health). Stands limits outcomes h) (sym its) stands)
