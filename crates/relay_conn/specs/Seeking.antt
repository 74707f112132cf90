-- The next target of a connection whose target before was let go.
use Rattle.std.specs.Prelude.{◌≡◌, ◌≢◌, ◌⊎◌, ℕ, Option, Some, None, IsSomeAnd}
use Rattle.relay_conn.specs.Side.{key_of_side}
use Rattle.relay_conn.specs.Trial.{IsNoTrial, IsTrial}
use Rattle.relay_conn.specs.declared.others.Others.{Others}
use Rattle.relay_conn.specs.declared.seeking.NextTarget.{NextTarget}
use Rattle.relay_conn.specs.declared.seeking.Seeking.{Seeking}
use Rattle.relay_conn.specs.declared.trial.NoTrial.{NoTrial}
use Rattle.relay_conn.specs.declared.trial.Trial.{Trial}
use Rattle.relay_conn.specs.declared.trial.Unreached.{Unreached}
use Rattle.relay_core.specs.declared.copying.Ended.TheVariants.{ReadFault}
use Rattle.relay_facts.specs.HowEnded.{how_of}
use Rattle.relay_facts.specs.declared.connection_facts.Acceptance.{Acceptance}
use Rattle.relay_log.specs.declared.ended.Cause.TheVariants as cause
use Rattle.relay_log.specs.declared.ended.Ended.{Ended as How}
use Rattle.relay_log.specs.declared.ended.Ended.TheVariants as how
use Rattle.rwloops.specs.declared.fault.Fault.TheVariants as fault
use Rattle.rwloops.specs.declared.outcome.DevKind.{DevKind}
use Rattle.rwloops.specs.declared.outcome.DevKind.TheVariants as kind

-- how a connection ends for which no target is tried any more: by what came of the last one
abbrev pub how_untried : Option Unreached → Option How → How
how_untried (Some last) before = how.NoTarget last.cause
how_untried None (Some before) = before
how_untried None None = how.NoTarget cause.Unreachable

-- it ends so since its client has gone
abbrev pub IsClientGone : How → Type 0
IsClientGone ends =
    (told : DevKind) × (told ≢ kind.Refused) × (ends ≡ how_of (ReadFault (fault.Device told)))

-- the token under which the poller tells of the next target's socket
abbrev pub token_of_next : {R : Type 0} → NextTarget R → ℕ
token_of_next next = key_of_side next.side

module _ {U D R : Type 0} where
  -- the next target is dialled, beside those that were tried
  abbrev pub IsTriedNext : Acceptance → Seeking U D R → Trial → Type 0
  IsTriedNext client seeking trial =
      IsSomeAnd seeking.others (λ (others : Others). IsTrial client others.tried trial)

  -- none is: its client has gone; or none is left, or there is no descriptor, and it ends by the last
  abbrev pub IsNotTried : Acceptance → Seeking U D R → How → Type 0
  IsNotTried client seeking ends =
      IsClientGone ends
      ⊎ (((seeking.others ≡ None) × (ends ≡ how_untried None seeking.last))
      ⊎ ((none : NoTrial) × IsNoTrial client none × (ends ≡ how_untried none.last seeking.last)))
