-- What the nodes of a tournament say of the leaves under them.
use Rattle.std.proofs.Common.{◌≡◌, ◌≢◌, ℕ, suc, zero, ◌+◌, ◌-◌, ◌*◌, ◌/◌, ◌^◌, ◌<◌, ◌≤◌, inl, inr, refl, Option, Some, None}
use Rattle.std.proofs.Common.{mul_assoc, two-mul, mul-add, add-mul, one-mul}
use Rattle.std.proofs.Common.{List, arith, subst, sym, length, set, drop, ap, ◌∙◌}
use Rattle.std.proofs.lemmas.Bool.{cases_lt, cases_eq}
use Rattle.std.proofs.lemmas.Nat.{pow_pos}
use Rattle.std.proofs.lemmas.List.{get_or-set_same, get_or-set_other, get_or-drop, get_or_past}
use Rattle.std.specs.Int.{IsPowerOfTwo}
use Rattle.deadline_core.specs.Moments.{earlier_of, ComesBy, IsCovered}
use Rattle.deadline_core.specs.PlaceAlarms.{alarm_of, IsFirst}
use Rattle.deadline_core.specs.Tournament.{moment_at, HasEarlier, IsTournament, Spans, HasLeaves, IsFirstDueLeaf}
use Rattle.deadline_core.proofs.MomentLemmas.{earlier_is_one, covers_itself, earlier_covers_one, earlier_covers_other, covers_through, come_through}

-- a node is no later than its leaves
pub node_to_first : (levels node first : ℕ) → Spans levels node first → node ≤ first
node_to_first zero node first spans = omega (arith, spans)
node_to_first (suc levels) node first spans =
    let below = node_to_first levels (2 * node) first spans.0 in
    omega (arith, below)

-- a node with children is before the leaves
pub before_leaves : (room levels node first : ℕ) → Spans (suc levels) node first → first < 2 * room → node < room
before_leaves room levels node first spans within =
    let below = node_to_first levels (2 * node) first spans.0 in
    omega (arith, below)

doubled : (levels : ℕ) → 2 ^ suc levels ≡ 2 ^ levels + 2 ^ levels
doubled levels = omega arith

-- each leaf under a node is covered by the node's moment
pub node_covers : (room : ℕ) (tree : List (Option ℕ)) → IsTournament room tree → (levels node first leaf : ℕ) →
    Spans levels node first → 0 < node → first + 2 ^ levels ≤ 2 * room → first ≤ leaf → leaf < first + 2 ^ levels →
    IsCovered (moment_at tree leaf) (moment_at tree node)
node_covers room tree is zero node first leaf spans more within from to =
    let same : leaf ≡ node = omega (arith, spans) in
    subst (λ (n : ℕ). IsCovered (moment_at tree leaf) (moment_at tree n)) same (covers_itself (moment_at tree leaf))
node_covers room tree is (suc levels) node first leaf spans more within from to =
    let twice = doubled levels in
    let positive = pow_pos levels in
    let inner = before_leaves room levels node first spans (omega arith) in
    let won : HasEarlier tree node = is.won node more inner in
    let left = moment_at tree (2 * node) in
    let right = moment_at tree (2 * node + 1) in
    subst (λ (m : Option ℕ). IsCovered (moment_at tree leaf) m) (sym won)
    (elim (cases_lt leaf (first + 2 ^ levels)) [
      | inl less ↦ covers_through (moment_at tree leaf) left (earlier_of left right)
          (node_covers room tree is levels (2 * node) first leaf spans.0 (omega arith) (omega arith) from less)
          (earlier_covers_one left right)
      | inr beyond ↦ covers_through (moment_at tree leaf) right (earlier_of left right)
          (node_covers room tree is levels (2 * node + 1) (first + 2 ^ levels) leaf spans.1 (omega arith) (omega arith)
          beyond (omega arith))
          (earlier_covers_other left right)
    ])

-- some leaf under a node has the node's moment
pub node_is_a_leaf : (room : ℕ) (tree : List (Option ℕ)) → IsTournament room tree → (levels node first : ℕ) →
    Spans levels node first → 0 < node → first + 2 ^ levels ≤ 2 * room →
    (leaf : ℕ) × (first ≤ leaf) × (leaf < first + 2 ^ levels) × (moment_at tree leaf ≡ moment_at tree node)
node_is_a_leaf room tree is zero node first spans more within =
    (first, omega arith, omega arith, ap (λ (n : ℕ). moment_at tree n) (sym spans))
node_is_a_leaf room tree is (suc levels) node first spans more within =
    let twice = doubled levels in
    let positive = pow_pos levels in
    let inner = before_leaves room levels node first spans (omega arith) in
    let won : HasEarlier tree node = is.won node more inner in
    let left = node_is_a_leaf room tree is levels (2 * node) first spans.0 (omega arith) (omega arith) in
    let right = node_is_a_leaf room tree is levels (2 * node + 1) (first + 2 ^ levels) spans.1 (omega arith) (omega arith) in
    elim (earlier_is_one (moment_at tree (2 * node)) (moment_at tree (2 * node + 1))) [
      | inl one ↦ (left.0, left.1, omega (arith, left.2), left.3 ∙ (one ∙ sym won))
      | inr other ↦ (right.0, omega (arith, right.1), omega (arith, right.2), right.3 ∙ (other ∙ sym won))
    ]

halved_product : (node p q : ℕ) → q ≡ p + p → 2 * node * p ≡ node * q
halved_product node p q is =
    mul_assoc 2 node p ∙ (two-mul (node * p) ∙ (sym (mul-add node p p) ∙ ap (λ (n : ℕ). node * n) (sym is)))

next_product : (node p q : ℕ) → q ≡ p + p → (2 * node + 1) * p ≡ node * q + p
next_product node p q is = add-mul (2 * node) 1 p ∙ (ap (λ (n : ℕ). n + 1 * p) (halved_product node p q is)
    ∙ ap (λ (n : ℕ). node * q + n) (one-mul p))

spans_from : (levels node : ℕ) → Spans levels node (node * 2 ^ levels)
spans_from zero node = omega arith
spans_from (suc levels) node = (
  subst (λ n. Spans levels (2 * node) n) (halved_product node (2 ^ levels) (2 ^ suc levels) (doubled levels))
      (spans_from levels (2 * node)),
  subst (λ n. Spans levels (2 * node + 1) n) (next_product node (2 ^ levels) (2 ^ suc levels) (doubled levels))
      (spans_from levels (2 * node + 1)),
)

-- all leaves are under node 1
pub all_leaves : (room : ℕ) → IsPowerOfTwo room → HasLeaves room 1 room room
all_leaves room power = record {
  levels = power.0;
  width_is = power.1;
  spans = subst (λ n. Spans power.0 1 n) (omega (arith, power.1)) (spans_from power.0 1);
  node_within = omega arith;
  leaves_within = omega arith;
}

-- ---- a leaf is changed, and the nodes above it

-- each node before the leaves, but one, has the earlier moment of its children
abbrev pub WonBut : ℕ → ℕ → List (Option ℕ) → Type 0
WonBut room but tree = (node : ℕ) → 0 < node → node < room → node ≢ but → HasEarlier tree node

-- a node keeps what it has where neither it nor a child is changed
unchanged : (tree : List (Option ℕ)) (at : ℕ) (moment : Option ℕ) (node : ℕ) → node ≢ at → 2 * node ≢ at →
    2 * node + 1 ≢ at → HasEarlier tree node → HasEarlier (set tree at moment) node
unchanged tree at moment node away left right won =
    get_or-set_other tree at node moment None away ∙ (won
    ∙ (ap (λ (m : Option ℕ). earlier_of m (moment_at tree (2 * node + 1)))
    (sym (get_or-set_other tree at (2 * node) moment None left))
    ∙ ap (λ (m : Option ℕ). earlier_of (moment_at (set tree at moment) (2 * node)) m)
    (sym (get_or-set_other tree at (2 * node + 1) moment None right))))

-- a node that is given the earlier moment of its children has it
given : (tree : List (Option ℕ)) (node : ℕ) (least : Option ℕ) → 0 < node → node < length tree →
    least ≡ earlier_of (moment_at tree (2 * node)) (moment_at tree (2 * node + 1)) →
    HasEarlier (set tree node least) node
given tree node least more within is =
    get_or-set_same tree node least None within ∙ (is
    ∙ (ap (λ (m : Option ℕ). earlier_of m (moment_at tree (2 * node + 1)))
    (sym (get_or-set_other tree node (2 * node) least None (λ same. absurd (omega arith))))
    ∙ ap (λ (m : Option ℕ). earlier_of (moment_at (set tree node least) (2 * node)) m)
    (sym (get_or-set_other tree node (2 * node + 1) least None (λ same. absurd (omega arith))))))

pub leaf_changed : (room place : ℕ) (tree : List (Option ℕ)) (alarm : Option ℕ) → place < room →
    IsTournament room tree → WonBut room ((room + place) / 2) (set tree (room + place) alarm)
leaf_changed room place tree alarm below is node more inner away =
    unchanged tree (room + place) alarm node (λ same. absurd (omega arith))
    (λ same. away (omega arith)) (λ same. away (omega arith)) (is.won node more inner)

pub raised : (room node : ℕ) (tree : List (Option ℕ)) (least : Option ℕ) → 0 < node → node < length tree →
    WonBut room node tree → least ≡ earlier_of (moment_at tree (2 * node)) (moment_at tree (2 * node + 1)) →
    WonBut room (node / 2) (set tree node least)
raised room node tree least positive within won is one more inner away = elim (cases_eq one node) [
  | inl same ↦ subst (λ (n : ℕ). HasEarlier (set tree node least) n) (sym same) (given tree node least positive within is)
  | inr other ↦ unchanged tree node least one other (λ same. away (omega arith)) (λ same. away (omega arith))
      (won one more inner other)
]

-- ---- all nodes are made, the last one first

-- each node above one, before the leaves, has the earlier moment of its children
abbrev pub WonAbove : ℕ → ℕ → List (Option ℕ) → Type 0
WonAbove room before tree = (node : ℕ) → room < node + before → node < room → HasEarlier tree node

-- ---- the first leaf that is due

halves_at : (room node first width half levels : ℕ) → width ≡ 2 ^ levels → Spans levels node first → 0 < node →
    first + width ≤ 2 * room → width ≢ 1 → half ≡ width / 2 →
    HasLeaves room (2 * node) first half × HasLeaves room (2 * node + 1) (first + half) half
halves_at room node first width half zero is spans more within many halved = absurd (many is)
halves_at room node first width half (suc levels) is spans more within many halved =
    let twice = doubled levels in
    let same : half ≡ 2 ^ levels = omega arith in (
      record {
        levels = levels;
        width_is = same;
        spans = spans.0;
        node_within = omega arith;
        leaves_within = omega arith;
      },
      record {
        levels = levels;
        width_is = same;
        spans = subst (λ n. Spans levels (2 * node + 1) (first + n)) (sym same) spans.1;
        node_within = omega arith;
        leaves_within = omega arith;
      },
    )

-- the children of a node have half of its leaves each
pub halves : (room node first width half : ℕ) → HasLeaves room node first width → width ≢ 1 → half ≡ width / 2 →
    HasLeaves room (2 * node) first half × HasLeaves room (2 * node + 1) (first + half) half
halves room node first width half has many halved = halves_at room node first width half has.levels has.width_is
    has.spans has.node_within has.leaves_within many halved

pub some_leaf : (room node first width : ℕ) → HasLeaves room node first width → (0 < width) × (node < 2 * room)
some_leaf room node first width has =
    let positive = pow_pos has.levels in
    let below = node_to_first has.levels node first has.spans in
    (omega (arith, has.width_is), omega (arith, has.width_is, has.leaves_within))

one_at : (levels node first : ℕ) → 1 ≡ 2 ^ levels → Spans levels node first → node ≡ first
one_at zero node first is spans = spans
one_at (suc levels) node first is spans =
    let twice = doubled levels in
    let positive = pow_pos levels in
    absurd (omega arith)

-- a node with one leaf is that leaf
pub is_leaf : (room node first : ℕ) → HasLeaves room node first 1 → node ≡ first
is_leaf room node first has = one_at has.levels node first has.width_is has.spans

-- where a node isn't due, no leaf under it is
pub none_under : (room : ℕ) (tree : List (Option ℕ)) (node first width now leaf : ℕ) → IsTournament room tree →
    HasLeaves room node first width → ¬ ComesBy (moment_at tree node) now → first ≤ leaf → leaf < first + width →
    ¬ ComesBy (moment_at tree leaf) now
none_under room tree node first width now leaf is has idle from to come =
    let within = has.width_is in
    idle (come_through (moment_at tree leaf) (moment_at tree node) now come
    (node_covers room tree is has.levels node first leaf has.spans has.node_within
    (omega (arith, has.width_is, has.leaves_within)) from (omega (arith, has.width_is))))

-- ---- the leaves as a list

-- a leaf is an alarm of the list
pub leaf_of : (room : ℕ) (tree : List (Option ℕ)) (place : ℕ) → alarm_of (drop room tree) place ≡ moment_at tree (room + place)
leaf_of room tree place = get_or-drop room tree place None

none_covers : (alarm : Option ℕ) → IsCovered alarm None → alarm ≡ None
none_covers None covered = refl
none_covers (Some at) covered = absurd covered

root_covers : (room : ℕ) (tree : List (Option ℕ)) → IsTournament room tree → IsPowerOfTwo room → (place : ℕ) →
    IsCovered (alarm_of (drop room tree) place) (moment_at tree 1)
root_covers room tree is power place =
    let has = all_leaves room power in
    subst (λ (m : Option ℕ). IsCovered m (moment_at tree 1)) (sym (leaf_of room tree place))
    (elim (cases_lt place room) [
      | inl below ↦ node_covers room tree is has.levels 1 room (room + place) has.spans has.node_within
          (omega (arith, has.width_is)) (omega arith) (omega (arith, has.width_is))
      | inr past ↦ subst (λ (m : Option ℕ). IsCovered m (moment_at tree 1))
          (sym (get_or_past tree (room + place) None (omega (arith, is.whole)))) tt
    ])

first_is : (room : ℕ) (tree : List (Option ℕ)) → IsTournament room tree → IsPowerOfTwo room → (first : Option ℕ) →
    moment_at tree 1 ≡ first → IsFirst (drop room tree) first
first_is room tree is power None found = λ place. none_covers (alarm_of (drop room tree) place)
    (subst (λ (m : Option ℕ). IsCovered (alarm_of (drop room tree) place) m) found (root_covers room tree is power place))
first_is room tree is power (Some at) found =
    let has = all_leaves room power in
    let leaf = node_is_a_leaf room tree is has.levels 1 room has.spans has.node_within (omega (arith, has.width_is)) in
    let place : room + (leaf.0 - room) ≡ leaf.0 = omega (arith, leaf.1) in (
      (leaf.0 - room, leaf_of room tree (leaf.0 - room) ∙ (ap (λ (n : ℕ). moment_at tree n) place ∙ (leaf.3 ∙ found))),
      λ one. subst (λ (m : Option ℕ). IsCovered (alarm_of (drop room tree) one) m) found (root_covers room tree is power one),
    )

-- node 1 has the first of all alarms
pub root_is_first : (room : ℕ) (tree : List (Option ℕ)) → IsTournament room tree → IsPowerOfTwo room →
    IsFirst (drop room tree) (moment_at tree 1)
root_is_first room tree is power = first_is room tree is power (moment_at tree 1) refl

even_at : (width half levels : ℕ) → width ≡ 2 ^ levels → width ≢ 1 → half ≡ width / 2 → half + half ≡ width
even_at width half zero is many halved = absurd (many is)
even_at width half (suc levels) is many halved =
    let twice = doubled levels in
    omega arith

join_at : (tree : List (Option ℕ)) (now from first middle end : ℕ) (right : Option ℕ) → first ≤ middle →
    IsFirstDueLeaf tree now from first middle None → IsFirstDueLeaf tree now from middle end right →
    IsFirstDueLeaf tree now from first end right
join_at tree now from first middle end None ahead none rest = λ leaf above below after. elim (cases_lt leaf middle) [
  | inl less ↦ none leaf above less after
  | inr more ↦ rest leaf more below after
]
join_at tree now from first middle end (Some found) ahead none rest = (
  omega (arith, rest.0),
  rest.1,
  rest.2,
  rest.3,
  λ leaf above after below. elim (cases_lt leaf middle) [
    | inl less ↦ none leaf above less after
    | inr more ↦ rest.4 leaf more after below
  ],
)

-- where none of the first half is due, the first of the second half is the first of all
pub join_halves : (room : ℕ) (tree : List (Option ℕ)) (now from node first width half : ℕ) (right : Option ℕ) →
    HasLeaves room node first width → width ≢ 1 → half ≡ width / 2 →
    IsFirstDueLeaf tree now from first (first + half) None →
    IsFirstDueLeaf tree now from (first + half) (first + half + half) right →
    IsFirstDueLeaf tree now from first (first + width) right
join_halves room tree now from node first width half right has many halved none rest =
    let even = even_at width half has.levels has.width_is many halved in
    let end : first + half + half ≡ first + width = omega arith in
    join_at tree now from first (first + half) (first + width) right (omega arith) none
    (subst (λ n. IsFirstDueLeaf tree now from (first + half) n right) end rest)
