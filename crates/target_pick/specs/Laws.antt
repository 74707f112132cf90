-- What picks have to be, over all clients of a rule and over all tries of one.
use Rattle.std.specs.Prelude.{◌≡◌, ◌≤◌, ◌<◌, ◌+◌, ◌*◌, ◌/◌, ℕ, true, false, List, slice_index}
use Rattle.target_pick.specs.Health.{failures_of, is_up, passes_of}
use Rattle.target_pick.specs.Pick.{MayTakeAt, owner_of_turn, tried_at, turns_had}
use Rattle.target_pick.specs.Seen.{total}
use Rattle.target_pick.specs.declared.health.Limits.{Limits}
use Rattle.target_pick.specs.declared.health.Outcome.{Outcome}
use Rattle.target_pick.specs.declared.seen.Seen.{Seen}

-- of any turns in a row each target has its share of each whole round, and of the rest at most one
-- share more
abbrev pub EachHasItsShare : Type 0
EachHasItsShare = (shares : List ℕ) (at turn count : ℕ) → 0 < total shares
    → (count / total shares * slice_index shares at ≤ turns_had shares at turn count)
    × (turns_had shares at turn count
    ≤ count / total shares * slice_index shares at + slice_index shares at)

-- no turn is had by a target without a share
abbrev pub OnlySharesHaveTurns : Type 0
OnlySharesHaveTurns = (shares : List ℕ) (turn : ℕ) → 0 < total shares
    → 0 < slice_index shares (owner_of_turn shares turn)

-- a target that was tried for a client may not take it again
abbrev pub TriedOnce : Type 0
TriedOnce = (targets : List Seen) (at : ℕ) → MayTakeAt (tried_at targets at) at → ⊥

-- and a try lets no target take the client that couldn't before
abbrev pub TriesAllowNothing : Type 0
TriesAllowNothing = (targets : List Seen) (at other : ℕ) → MayTakeAt (tried_at targets other) at
    → MayTakeAt targets at

-- so many failures in a row bring a target down
abbrev pub FailuresBringDown : Type 0
FailuresBringDown = (limits : Limits) (outcomes : List Outcome) → 0 < limits.fall
    → limits.fall ≤ failures_of outcomes → is_up limits outcomes ≡ false

-- so many passed checks since the last failure bring it up
abbrev pub PassesBringUp : Type 0
PassesBringUp = (limits : Limits) (outcomes : List Outcome) → 0 < limits.rise
    → limits.rise ≤ passes_of outcomes → is_up limits outcomes ≡ true
