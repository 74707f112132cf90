-- A tournament of moments: a list whose second half has the leaves, and in which each node before
-- them has the earlier moment of its two children. No public clause cites this module.
use Rattle.std.specs.Prelude.{◌≡◌, ℕ, zero, suc, ◌+◌, ◌*◌, ◌^◌, ◌<◌, ◌≤◌, List, Option, None}
use Rattle.std.specs.Prelude.{Some, length, slice_index_or}
use Rattle.deadline_core.specs.Moments.{earlier_of, ComesBy}

-- the moment of a node
abbrev pub moment_at : List (Option ℕ) → ℕ → Option ℕ
moment_at tree node = slice_index_or tree node None

-- a node has the earlier moment of its children
abbrev pub HasEarlier : List (Option ℕ) → ℕ → Type 0
HasEarlier tree node =
    moment_at tree node ≡ earlier_of (moment_at tree (2 * node)) (moment_at tree (2 * node + 1))

-- the list has this many leaves, and each node before them the earlier moment of its children
pub record IsTournament (room : ℕ) (tree : List (Option ℕ)) : Type 0 where
  pub whole : length tree ≡ 2 * room
  pub won : (node : ℕ) → 0 < node → node < room → HasEarlier tree node

-- so many levels below a node the leaves begin with this one
abbrev pub Spans : ℕ → ℕ → ℕ → Type 0
Spans zero node first = node ≡ first
Spans (suc levels) node first =
    Spans levels (2 * node) first × Spans levels (2 * node + 1) (first + 2 ^ levels)

-- the leaves under a node are those from the first one on, so many
pub record HasLeaves (room node first width : ℕ) : Type 0 where
  pub levels : ℕ
  pub width_is : width ≡ 2 ^ levels
  pub spans : Spans levels node first
  pub node_within : 0 < node
  pub leaves_within : first + width ≤ 2 * room

-- the first leaf that is due of those from `from` on, among these; none where none is
abbrev pub IsFirstDueLeaf : List (Option ℕ) → ℕ → ℕ → ℕ → ℕ → Option ℕ → Type 0
IsFirstDueLeaf tree now from first end None =
    (leaf : ℕ) → first ≤ leaf → leaf < end → from ≤ leaf → ¬ ComesBy (moment_at tree leaf) now
IsFirstDueLeaf tree now from first end (Some found) =
    (first ≤ found) × (found < end) × (from ≤ found) × ComesBy (moment_at tree found) now
    × ((leaf : ℕ) → first ≤ leaf → from ≤ leaf → leaf < found
    → ¬ ComesBy (moment_at tree leaf) now)
