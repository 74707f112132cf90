-- Who has a turn.
use Rattle.std.proofs.Common.{◌≡◌, ap, refl, ℕ, suc, ◌-◌, ◌%◌, ◌≤◌, ◌<◌, List, [], ◌∷◌}
use Rattle.std.proofs.Common.{get_or, arith, inl, inr, lt-ltb, le-ltb}
use Rattle.std.proofs.Math.Nat.{mod-lt}
use Rattle.std.proofs.lemmas.Bool.{cases_lt}
use Rattle.std.specs.Prelude.{◌⊎◌}
use Rattle.target_pick.specs.Pick.{owner, owner_of_turn}
use Rattle.target_pick.specs.Seen.{total}

-- one of two, by a test
pub owner_here : (share : ℕ) (shares : List ℕ) (slot : ℕ) → slot < share → owner (share ∷ shares) slot ≡ 0
owner_here share shares slot h = rw (lt-ltb slot share h) refl

pub owner_later : (share : ℕ) (shares : List ℕ) (slot : ℕ) → share ≤ slot
    → owner (share ∷ shares) slot ≡ suc (owner shares (slot - share))
owner_later share shares slot h = rw (le-ltb slot share h) refl

pub owner_has_a_share : (shares : List ℕ) (slot : ℕ) → slot < total shares → 0 < get_or shares (owner shares slot) 0
owner_has_a_share [] slot h = absurd (omega arith)
owner_has_a_share (share ∷ shares) slot h =
    by_cases (λ below. owner_has_a_share shares (slot - share) below) (cases_lt slot share)
  where
    by_cases : (slot - share < total shares → 0 < get_or shares (owner shares (slot - share)) 0)
        → (slot < share) ⊎ (share ≤ slot) → 0 < get_or (share ∷ shares) (owner (share ∷ shares) slot) 0
    by_cases later (inl here) =
        let e = ap (λ (n : ℕ). get_or (share ∷ shares) n 0) (owner_here share shares slot here) in
        omega arith
    by_cases later (inr behind) =
        let e = ap (λ (n : ℕ). get_or (share ∷ shares) n 0) (owner_later share shares slot behind) in
        let rest = later (omega arith) in
        omega arith

pub only_shares_have_turns : (shares : List ℕ) (turn : ℕ) → 0 < total shares
    → 0 < get_or shares (owner_of_turn shares turn) 0
only_shares_have_turns shares turn some = owner_has_a_share shares (turn % total shares) (mod-lt turn some)
