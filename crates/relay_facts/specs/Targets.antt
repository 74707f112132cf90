-- The targets of a rule, and which of them is a client's next.
use Rattle.std.specs.Prelude.{◌≡◌, ◌≢◌, ◌&&◌, ◌||◌, ◌<◌, ℕ, Bool, true, false, not, List, Some, map, length}
use Rattle.std.specs.Prelude.{All, IsSomeAnd, is_some, nat_lt, slice_get, take}
use Rattle.std.specs.List.{list_any}
use Rattle.std.specs.Option.{option_map_or}
use Rattle.relay_admin.specs.declared.admin.target_order.Order.{Order}
use Rattle.relay_admin.specs.rules.Addr.{address_of, same_address}
use Rattle.relay_facts.specs.SetOrder.{is_drained_by, is_up_by}
use Rattle.relay_facts.specs.declared.target_list.CountedTarget.{CountedTarget}
use Rattle.relay_facts.specs.declared.target_list.Picked.{Picked}
use Rattle.relay_settings.specs.declared.targets.Target.{Target}
use Rattle.relay_facts.specs.declared.target_list.Targets.{Targets}
use Rattle.target_pick.specs.Pick.{HasTurn, IsLeastOf, MayTakeAt, MustBeBackup}
use Rattle.target_pick.specs.Seen.{may_take}
use Rattle.target_pick.specs.Tried.{untried, was_tried}
use Rattle.target_pick.specs.declared.picking.Balance.TheVariants.{First, LeastConnections, RoundRobin, Source}
use Rattle.target_pick.specs.declared.seen.Seen.{Seen}
use Rattle.target_pick.specs.declared.tried.Tried.{Tried}

-- the targets, without what is counted of them
abbrev pub target_of : CountedTarget → Target
target_of counted = counted.target

abbrev pub targets_of : Targets → List Target
targets_of targets = map target_of targets.all.items

-- they are checked, so that one may be down
abbrev pub are_checked : Targets → Bool
are_checked targets = is_some targets.checks

-- the target at the place is checked, so that outcomes count for its health
abbrev pub HasHealthAt : Targets → ℕ → Type 0
HasHealthAt targets place =
    IsSomeAnd (slice_get targets.all.items place) (λ counted. is_some counted.health ≡ true)

-- it gets clients; one without a weight gets none
abbrev pub has_weight : Target → Bool
has_weight target = nat_lt 0 target.weight

-- one of these targets has the address of that one
abbrev pub has_address_of : List Target → Target → Bool
has_address_of targets target =
    list_any (λ one. same_address (address_of one.at) (address_of target.at)) targets

-- a target ahead of the place has the address of the one there
abbrev pub is_repeated : List Target → ℕ → Bool
is_repeated targets place = option_map_or (has_address_of (take place targets)) (slice_get targets place) false

-- what is known of a target when one is picked: what an operator has set of it, and whether its checks
-- say that it is up, two atomics say, of which a proof knows no value; one that isn't checked is up, unless
-- an operator has set otherwise
pub record IsSeenAs (checked before : Bool) (target : Target) (seen : Seen) : Type 0 where
  pub order : Order
  pub is_healthy : Bool
  pub unchecked : checked ≡ false → is_healthy ≡ true
  pub weight : seen.weight ≡ target.weight
  pub is_backup : seen.is_backup ≡ target.is_backup
  pub is_up : seen.is_up ≡ is_up_by order is_healthy
  pub is_drained : seen.is_drained ≡ is_drained_by order
  pub was_tried : seen.was_tried ≡ before

-- the same of each, by its place
pub record AreSeen (checked : Bool) (targets : List Target) (tried : Tried) (seen : List Seen)
    : Type 0 where
  pub count : length seen ≡ length targets
  pub each : (place : ℕ) (target : Target) (one : Seen) → slice_get targets place ≡ Some target
      → slice_get seen place ≡ Some one → IsSeenAs checked (was_tried tried place) target one

-- it is down or drained, and would take the client otherwise
abbrev pub is_seen_down : Seen → Bool
is_seen_down seen = (not seen.is_up || seen.is_drained) && (not seen.was_tried && nat_lt 0 seen.weight)

-- no target may take the client, by what was known of each at that moment, and it is told whether one
-- of them was down or drained that would have taken the client otherwise
pub record IsNoneLeft (checked : Bool) (targets : List Target) (tried : Tried) (down : Bool) : Type 0
  where
    pub seen : List Seen
    pub are_seen : AreSeen checked targets tried seen
    pub none_takes : All (λ (one : Seen). may_take one ≡ false) seen
    pub told : down ≡ list_any is_seen_down seen

-- the place is the pick of the list's balance, over what is known of its targets
pub record IsPick (list : Targets) (tried : Tried) (turn source place : ℕ) : Type 0 where
  pub seen : List Seen
  pub are_seen : AreSeen (are_checked list) (targets_of list) tried seen
  pub takes : MayTakeAt seen place
  pub backups : MustBeBackup seen place
  pub round_robin : list.balance ≡ RoundRobin → HasTurn seen turn place
  pub by_source : list.balance ≡ Source → HasTurn seen source place
  pub first : list.balance ≡ First → HasTurn seen 0 place
  pub least : list.balance ≡ LeastConnections → IsLeastOf seen place

-- a target that wasn't tried is the next one, and is counted as tried; it is the last where no other
-- is left
pub record IsNext (checked : Bool) (targets : List Target) (tried : Tried) (picked : Picked) : Type 0
  where
    pub address : IsSomeAnd (slice_get targets picked.place) (λ target. target.at ≡ picked.at)
    pub fresh : was_tried tried picked.place ≡ false
    pub marked : was_tried picked.tried picked.place ≡ true
    pub others : (other : ℕ) → other ≢ picked.place → was_tried picked.tried other ≡ was_tried tried other
    pub fewer : untried picked.tried < untried tried
    pub last : picked.others ≡ 0 → (down : Bool) × IsNoneLeft checked targets picked.tried down
