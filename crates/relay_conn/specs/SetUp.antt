-- A connection right after its set-up.
use Rattle.std.specs.Prelude.{◌≡◌, ◌+◌, ℕ, Option, Some, None}
use Rattle.std.specs.Arc.{arc_value}
use Rattle.std.specs.declared.alloc.Global.{Global}
use Rattle.std.specs.declared.sync.Arc.{Arc}
use Rattle.base_types.specs.declared.direction.Dir.TheVariants.{Read}
use Rattle.readiness.specs.declared.loop_token.Place.{Place}
use Rattle.relay_core.specs.declared.pair_tasks.FlowState.TheVariants.{Waits}
use Rattle.relay_conn.specs.Connection.{given_up_at}
use Rattle.relay_conn.specs.Others.{others_of}
use Rattle.relay_conn.specs.Side.{IsWhole, key_of_side}
use Rattle.relay_conn.specs.declared.connection.Connection.{Connection}
use Rattle.relay_conn.specs.declared.connection.Phase.TheVariants as phase
use Rattle.relay_conn.specs.declared.dialing.Dialing.{Dialing}
use Rattle.relay_conn.specs.declared.trial.Trial.{Trial}
use Rattle.relay_facts.specs.Acceptance.{said_then}
use Rattle.relay_facts.specs.declared.connection_facts.ConnectionFacts.{ConnectionFacts}

module _ {U D R : Type 0} where
  -- a dial begins, of a connection whose rule has this idle time: its sides' descriptors have the
  -- keys of this place, its ways will wait for their sources, its target has until this moment, and
  -- nothing failed
  pub record BeginsDial (idle_ms : Option ℕ) (at : Place) (connect_by : Option ℕ)
      (dialing : Dialing U D R) : Type 0 where
    pub up_idle : dialing.up.time.idle.idle_ms ≡ idle_ms
    pub down_idle : dialing.down.time.idle.idle_ms ≡ idle_ms
    pub up_reads : dialing.tasks.up ≡ Waits Read
    pub down_reads : dialing.tasks.down ≡ Waits Read
    pub time : dialing.connect_by ≡ connect_by
    pub unfailed : dialing.failure ≡ None
    pub client : key_of_side dialing.client ≡ at.first
    pub target : key_of_side dialing.target ≡ at.second
    pub client_whole : IsWhole dialing.client
    pub target_whole : IsWhole dialing.target

  -- the connection of which these facts are known: its target is dialled, and the id of its target's
  -- side comes right after that of its client's
  pub record IsSetUp (known : Arc ConnectionFacts Global) (at : Place) (connect_by : Option ℕ)
      (connection : Connection U D R) : Type 0 where
    pub facts : connection.facts ≡ known
    pub follows : connection.target_id ≡ connection.client_id + 1
    pub dialing : Dialing U D R
    pub dials : connection.phase ≡ Some (phase.Dialing dialing)
    pub begins : BeginsDial (said_then (arc_value known).acceptance).rule.idle_ms at connect_by dialing

  -- of the target that was begun first it knows which others are left, what they are registered under,
  -- and when the next one is tried
  abbrev pub IsBegunWith : Trial → Place → Dialing U D R → Type 0
  IsBegunWith trial at dialing =
      (now : ℕ) × (dialing.others ≡ others_of trial.picked at.second now (given_up_at dialing))
