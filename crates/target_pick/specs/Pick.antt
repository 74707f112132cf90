-- What a pick has to be.
use Rattle.std.specs.Prelude.{◌≡◌, ◌≤◌, ◌<◌, ◌+◌, ◌-◌, ◌*◌, ◌%◌, ◌==◌, ℕ, zero, suc, true, false}
use Rattle.std.specs.Prelude.{List, [], ◌∷◌, map, slice_index, slice_get, nat_lt, All, IsSomeAnd}
use Rattle.std.specs.Prelude.{if◌then◌else◌}
use Rattle.target_pick.specs.Seen.{may_take, shares_of, takes_before_backups, total}
use Rattle.target_pick.specs.declared.seen.Seen.{Seen}

-- the target at this place may take the client
abbrev pub MayTakeAt : List Seen → ℕ → Type 0
MayTakeAt targets at = IsSomeAnd (slice_get targets at) (λ target. may_take target ≡ true)

-- if the target at this place is a backup, no other may take the client
abbrev pub MustBeBackup : List Seen → ℕ → Type 0
MustBeBackup targets at = IsSomeAnd (slice_get targets at)
    (λ target. target.is_backup ≡ true → All (λ (other : Seen). takes_before_backups other ≡ false) targets)

-- the connections of each target
abbrev pub loads_of : List Seen → List ℕ
loads_of targets = map (λ (target : Seen). target.connections) targets

-- no target that is asked has fewer connections for each of its turns
abbrev pub IsLeast : List ℕ → List ℕ → ℕ → Type 0
IsLeast shares loads at = (other : ℕ) → 0 < slice_index shares other
    → slice_index loads at * slice_index shares other ≤ slice_index loads other * slice_index shares at

-- the same of targets
abbrev pub IsLeastOf : List Seen → ℕ → Type 0
IsLeastOf targets at = IsLeast (shares_of targets) (loads_of targets) at

-- who has a turn, where each has as many in a row as its share
abbrev pub owner : List ℕ → ℕ → ℕ
owner [] slot = 0
owner (share ∷ shares) slot = if nat_lt slot share then 0 else suc (owner shares (slot - share))

-- who has the turn with this number, where the turns begin anew after the last one
abbrev pub owner_of_turn : List ℕ → ℕ → ℕ
owner_of_turn shares turn = owner shares (turn % total shares)

-- the target at this place has the turn with this number
abbrev pub HasTurn : List Seen → ℕ → ℕ → Type 0
HasTurn targets turn at = at ≡ owner_of_turn (shares_of targets) turn

-- this target was tried for the client
abbrev pub tried : Seen → Seen
tried target = record target { was_tried = true }

-- the target at this place was tried for the client, and nothing else changed
abbrev pub tried_at : List Seen → ℕ → List Seen
tried_at [] at = []
tried_at (target ∷ targets) zero = tried target ∷ targets
tried_at (target ∷ targets) (suc at) = target ∷ tried_at targets at

-- one, where the target may take the client
abbrev pub taker : Seen → ℕ
taker target = if may_take target then 1 else 0

-- how many targets may take the client
abbrev pub takers : List Seen → ℕ
takers targets = total (map taker targets)

-- ---- Many picks

-- how many of so many turns in a row, from this one on, the target at this place has
abbrev pub turns_had : List ℕ → ℕ → ℕ → ℕ → ℕ
turns_had shares at turn zero = 0
turns_had shares at turn (suc count) =
    turns_had shares at turn count
    + (if owner_of_turn shares (turn + count) == at then 1 else 0)
