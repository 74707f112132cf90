-- The walk over a rule's targets.
use Rattle.std.specs.Prelude.{◌≡◌, ◌⊎◌, ℕ, Bool, true, false, Option, IfSome, IsSomeAnd, unwrap_or}
use Rattle.relay_conn.specs.Dialled.{dialled_to}
use Rattle.relay_conn.specs.declared.trial.NoTrial.{NoTrial}
use Rattle.relay_conn.specs.declared.trial.Trial.{Trial}
use Rattle.relay_conn.specs.declared.trial.Unreached.{Unreached}
use Rattle.relay_facts.specs.Acceptance.{IsPicked, checked_in, list_in, source_of, targets_in}
use Rattle.relay_facts.specs.Targets.{IsNext, IsNoneLeft}
use Rattle.relay_facts.specs.declared.connection_facts.Acceptance.{Acceptance}
use Rattle.relay_log.specs.declared.ended.Cause.{Cause}
use Rattle.relay_log.specs.declared.ended.Cause.TheVariants as cause
use Rattle.target_pick.specs.Tried.{KeepsTried}
use Rattle.target_pick.specs.declared.tried.Tried.{Tried}

-- the place of the target to which a connection was begun
abbrev pub place_tried : Trial → ℕ
place_tried trial = trial.picked.place

-- a connection was begun to a target of the client's rule that wasn't tried before, by its address:
-- the next one, after those that were tried and perhaps others that failed at once
pub record IsTrial (client : Acceptance) (tried : Tried) (trial : Trial) : Type 0 where
  pub before : Tried
  pub kept : KeepsTried tried before
  pub next : IsNext (checked_in client) (targets_in client) before trial.picked
  pub picked : IfSome (list_in client) (λ list.
      IsPicked list before (source_of client.client) (place_tried trial))
  pub dialled : dialled_to trial.dialled ≡ trial.picked.at

-- the same of any that were tried
abbrev pub IsSomeTrial : Acceptance → Trial → Type 0
IsSomeTrial client trial = (tried : Tried) × IsTrial client tried trial

-- the process or the system had no descriptor for the last
abbrev pub LacksDescriptors : Option Unreached → Type 0
LacksDescriptors last = IsSomeAnd last (λ (unreached : Unreached). unreached.cause ≡ cause.Descriptors)

-- why none was dialled: one is down, or they get nobody
abbrev pub cause_of_none : Bool → Cause
cause_of_none true = cause.Down
cause_of_none false = cause.Unreachable

-- the target that was dialled last; of a rule whose targets are down or get nobody its first one
abbrev pub last_of : NoTrial → Unreached
last_of none = unwrap_or none.last (record { place = 0; cause = cause_of_none none.down })

-- none was begun: no target is left that is up, or there was no descriptor
abbrev pub IsNoTrial : Acceptance → NoTrial → Type 0
IsNoTrial client none =
    IsNoneLeft (checked_in client) (targets_in client) none.tried none.down ⊎ LacksDescriptors none.last
