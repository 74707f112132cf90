-- How many targets may take a client.
use Rattle.std.proofs.Common.{◌≡◌, refl, ℕ, ◌+◌, Bool, true, false, List, [], ◌∷◌, All, arith}
use Rattle.std.specs.Prelude.{if◌then◌else◌}
use Rattle.std.proofs.lemmas.List.Elements.{All-cons, All-nil}
use Rattle.target_pick.specs.Pick.{takers}
use Rattle.target_pick.specs.Seen.{may_take}
use Rattle.target_pick.specs.declared.seen.Seen.{Seen}

neither : (takes : Bool) (others : ℕ) → (if takes then 1 else 0) + others ≡ 0 → (takes ≡ false) × (others ≡ 0)
neither true others e = absurd (omega arith)
neither false others e = (refl, omega (arith, e))

-- where so many are 0, none may
pub none_takes_it : (targets : List Seen) (count : ℕ) → count ≡ takers targets → count ≡ 0
    → All (λ (target : Seen). may_take target ≡ false) targets
none_takes_it [] count is e = All-nil (λ (target : Seen). may_take target ≡ false)
none_takes_it (target ∷ targets) count is e =
    let parts = neither (may_take target) (takers targets) (omega (arith, is, e)) in
    All-cons (λ (other : Seen). may_take other ≡ false) target targets parts.0
    (none_takes_it targets (takers targets) refl parts.1)
