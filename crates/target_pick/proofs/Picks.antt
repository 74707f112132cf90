-- What a pick by a turn, and one by connections, says of its target.
use Rattle.std.proofs.Common.{◌≡◌, ◌∙◌, sym, subst, ℕ, ◌<◌, Bool, false, List, Option, Some, None, All, arith}
use Rattle.std.specs.Prelude.{map, slice_index, IfNone, IfSome, MatchOption}
use Rattle.target_pick.specs.Pick.{IsLeast, IsLeastOf, MayTakeAt, MustBeBackup, loads_of, owner}
use Rattle.target_pick.specs.Seen.{asks_backups, may_take, share_of, shares_of, total}
use Rattle.target_pick.specs.declared.seen.Seen.{Seen}
use Rattle.target_pick.proofs.Owners.{owner_has_a_share}
use Rattle.target_pick.proofs.Shares.{must_be_backup, none_takes, takes_at, total_of_none}

-- the target has a share, of those that are asked
pub has_share : (targets : List Seen) (backups : Bool) (slot at : ℕ) → backups ≡ asks_backups targets
    → slot < total (map (share_of backups) targets) → at ≡ owner (map (share_of backups) targets) slot
    → 0 < slice_index (shares_of targets) at
has_share targets backups slot at asked within is =
    let P : ℕ → Type 0 = λ (k : ℕ). 0 < slice_index (map (share_of backups) targets) k in
    let Q : Bool → Type 0 = λ (b : Bool). 0 < slice_index (map (share_of b) targets) at in
    subst Q asked (subst P (sym is) (owner_has_a_share (map (share_of backups) targets) slot within))

pub turn_takes : (targets : List Seen) (backups : Bool) (slot at : ℕ) → backups ≡ asks_backups targets
    → slot < total (map (share_of backups) targets) → at ≡ owner (map (share_of backups) targets) slot → MayTakeAt targets at
turn_takes targets backups slot at asked within is = takes_at targets at (has_share targets backups slot at asked within is)

pub turn_backup : (targets : List Seen) (backups : Bool) (slot at : ℕ) → backups ≡ asks_backups targets
    → slot < total (map (share_of backups) targets) → at ≡ owner (map (share_of backups) targets) slot → MustBeBackup targets at
turn_backup targets backups slot at asked within is =
    must_be_backup targets at (has_share targets backups slot at asked within is)

-- the same of the least loaded
pub least_share : (targets : List Seen) (backups : Bool) (at : ℕ) → backups ≡ asks_backups targets
    → 0 < slice_index (map (share_of backups) targets) at → 0 < slice_index (shares_of targets) at
least_share targets backups at asked h =
    let Q : Bool → Type 0 = λ (b : Bool). 0 < slice_index (map (share_of b) targets) at in
    subst Q asked h

pub least_is_least : (targets : List Seen) (backups : Bool) (at : ℕ) → backups ≡ asks_backups targets
    → IsLeast (map (share_of backups) targets) (loads_of targets) at → IsLeastOf targets at
least_is_least targets backups at asked h =
    let Q : Bool → Type 0 = λ (b : Bool). IsLeast (map (share_of b) targets) (loads_of targets) at in
    subst Q asked h

-- ---- None

pub none_of_total : (targets : List Seen) (backups : Bool) (n : ℕ) → backups ≡ asks_backups targets
    → n ≡ total (map (share_of backups) targets) → n ≡ 0 → All (λ (target : Seen). may_take target ≡ false) targets
none_of_total targets backups n asked is none =
    let Q : Bool → Type 0 = λ (b : Bool). total (map (share_of b) targets) ≡ 0 in
    none_takes targets (subst Q asked (sym is ∙ none))

-- what looking for the least loaded gave
abbrev pub Found : List Seen → Bool → Option ℕ → Type 0
Found targets backups found = MatchOption found
    ((k : ℕ) → slice_index (map (share_of backups) targets) k ≡ 0)
    (λ at. (0 < slice_index (map (share_of backups) targets) at)
    × IsLeast (map (share_of backups) targets) (loads_of targets) at)

pub found_none : (targets : List Seen) (backups : Bool) (found : Option ℕ) → 0 < total (map (share_of backups) targets)
    → Found targets backups found → IfNone found (All (λ (target : Seen). may_take target ≡ false) targets)
found_none targets backups (Some at) some h = tt
found_none targets backups None some h =
    absurd (let none = total_of_none (map (share_of backups) targets) h in omega arith)

pub found_takes : (targets : List Seen) (backups : Bool) (found : Option ℕ) → backups ≡ asks_backups targets
    → Found targets backups found → IfSome found (λ at. MayTakeAt targets at)
found_takes targets backups None asked h = tt
found_takes targets backups (Some at) asked h = takes_at targets at (least_share targets backups at asked h.0)

pub found_backup : (targets : List Seen) (backups : Bool) (found : Option ℕ) → backups ≡ asks_backups targets
    → Found targets backups found → IfSome found (λ at. MustBeBackup targets at)
found_backup targets backups None asked h = tt
found_backup targets backups (Some at) asked h = must_be_backup targets at (least_share targets backups at asked h.0)

pub found_least : (targets : List Seen) (backups : Bool) (found : Option ℕ) → backups ≡ asks_backups targets
    → Found targets backups found → IfSome found (λ at. IsLeastOf targets at)
found_least targets backups None asked h = tt
found_least targets backups (Some at) asked h = least_is_least targets backups at asked h.1
