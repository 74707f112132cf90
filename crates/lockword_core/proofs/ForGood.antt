-- What no operation takes back.
use Rattle.std.proofs.Common.{◌≡◌, ◌∙◌, [], ◌∷◌}
use Rattle.std.specs.Prelude.{◌⊎◌}
use Rattle.lockword_core.proofs.Words.{ℕ, true, false, List, refl, ap, arith, Option, Some, inl, inr, is_some, Event}
use Rattle.lockword_core.proofs.Words.{bit, LockState, census, stake_of, IsConsistent, Change, nothing, closes, drains}
use Rattle.lockword_core.proofs.Words.{Stake}
use Rattle.lockword_core.proofs.Words.{adds_signal, takes_signal, destroys, Outcome, refused, moved, outcome}
use Rattle.lockword_core.proofs.Words.{with_stake, with_change, carried_out, transition, state_after}
use Rattle.lockword_core.proofs.StateLemmas.{transition_consistent}
use Rattle.lockword_core.proofs.EndCounts.{TellsEnds, tells_ends, is_destroying, no_mark_yet}

-- ---- The flags

-- each change beside the stakes leaves what holds of a state
abbrev IsKept : (LockState → Type 0) → Type 0
IsKept P = (s : LockState) (holder : ℕ) (new : Stake) (change : Change) → P s
    → P (with_change (with_stake s holder new) holder change)

for_good : (P : LockState → Type 0) → IsKept P → (s : LockState) (events : List Event) → P s → P (state_after s events)
for_good P kept s [] e = e
for_good P kept s (x ∷ events) e =
    for_good P kept (transition s x.holder x.op).0 events (carried (outcome (census s) (stake_of s x.holder) x.op))
  where
    carried : (o : Outcome) → P (carried_out s x.holder o).0
    carried (refused a) = e
    carried (moved a new change) = kept s x.holder new change e

closed_kept : IsKept (λ s. s.closed ≡ true)
closed_kept s holder new nothing e = e
closed_kept s holder new closes e = refl
closed_kept s holder new drains e = e
closed_kept s holder new (adds_signal d) e = e
closed_kept s holder new (takes_signal d) e = e
closed_kept s holder new destroys e = e

draining_kept : IsKept (λ s. s.draining ≡ true)
draining_kept s holder new nothing e = e
draining_kept s holder new closes e = e
draining_kept s holder new drains e = refl
draining_kept s holder new (adds_signal d) e = e
draining_kept s holder new (takes_signal d) e = e
draining_kept s holder new destroys e = e

pub closed_for_good : (s : LockState) (events : List Event) → s.closed ≡ true → (state_after s events).closed ≡ true
closed_for_good s events e = for_good (λ s. s.closed ≡ true) closed_kept s events e

pub draining_for_good : (s : LockState) (events : List Event) → s.draining ≡ true
    → (state_after s events).draining ≡ true
draining_for_good s events e = for_good (λ s. s.draining ≡ true) draining_kept s events e

-- ---- The mark

mark_kept : (s : LockState) (holder : ℕ) (change : Change) → is_destroying change ≡ false
    → (with_change s holder change).destroyed_by ≡ s.destroyed_by
mark_kept s holder nothing other = refl
mark_kept s holder closes other = refl
mark_kept s holder drains other = refl
mark_kept s holder (adds_signal d) other = refl
mark_kept s holder (takes_signal d) other = refl
mark_kept s holder destroys other = absurd (cc)

mark_carried : (s : LockState) (holder q : ℕ) (o : Outcome) → IsConsistent s → TellsEnds (stake_of s holder) o
    → s.destroyed_by ≡ Some q → (carried_out s holder o).0.destroyed_by ≡ Some q
mark_carried s holder q (refused a) good ends e = e
mark_carried s holder q (moved a new change) good (done, last, own_last) e =
    by (no_mark_yet s holder change good own_last)
  where
    by : bit (is_some s.destroyed_by) ≡ 0 ⊎ (is_destroying change ≡ false)
        → (with_change (with_stake s holder new) holder change).destroyed_by ≡ Some q
    by (inl none) =
        let marked : bit (is_some s.destroyed_by) ≡ 1 = ap (λ (o : Option ℕ). bit (is_some o)) e in absurd (omega arith)
    by (inr other) = mark_kept (with_stake s holder new) holder change other ∙ e

pub destroyed_for_good : (s : LockState) (events : List Event) (q : ℕ) → IsConsistent s → s.destroyed_by ≡ Some q
    → (state_after s events).destroyed_by ≡ Some q
destroyed_for_good s [] q good e = e
destroyed_for_good s (x ∷ events) q good e =
    destroyed_for_good (transition s x.holder x.op).0 events q (transition_consistent s x.holder x.op good)
    (mark_carried s x.holder q (outcome (census s) (stake_of s x.holder) x.op) good
    (tells_ends (census s) (stake_of s x.holder) x.op) e)
