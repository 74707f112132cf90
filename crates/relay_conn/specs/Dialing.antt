-- What becomes of a connection whose target isn't connected yet, and how its ways begin.
use Rattle.std.specs.Prelude.{◌≡◌, ◌≢◌, ◌<◌, ◌⊎◌, ◌↔◌, ℕ, Bool, true, false, [], Option, Some, None, IsSome, length}
use Rattle.base_types.specs.declared.direction.Dir.TheVariants.{Read}
use Rattle.fd_descriptor.specs.TaskHalf.{KeepsHalf}
use Rattle.readiness.specs.declared.agenda.Why.{Why}
use Rattle.readiness.specs.declared.agenda.Why.TheVariants as why
use Rattle.relay_core.specs.declared.pair_tasks.FlowState.TheVariants as flow
use Rattle.relay_core.specs.declared.ways.Way.TheVariants.{Up}
use Rattle.relay_core.specs.declared.pair_tasks.PairNext.{PairNext}
use Rattle.relay_core.specs.declared.pair_tasks.PairNext.TheVariants.{Waits, Again, Closes}
use Rattle.relay_conn.specs.Connection.{given_up_at}
use Rattle.relay_conn.specs.Cause.{how_undialled}
use Rattle.relay_conn.specs.Heard.{IsTime, KeepsWhatIsTold, stop_told}
use Rattle.relay_conn.specs.Others.{IsNoted, moves_on_in, others_of}
use Rattle.relay_conn.specs.Relaying.{GoneOn, begun_tasks}
use Rattle.relay_core.specs.Passing.{Bytes}
use Rattle.relay_facts.specs.Header.{first_bytes}
use Rattle.relay_facts.specs.declared.connection_facts.Acceptance.{Acceptance}
use Rattle.relay_conn.specs.declared.dialing.Dialing.{Dialing}
use Rattle.relay_conn.specs.declared.others.Dials.{Dials}
use Rattle.relay_conn.specs.declared.seeking.NextTarget.{NextTarget}
use Rattle.relay_conn.specs.declared.seeking.Seeking.{Seeking}
use Rattle.relay_log.specs.declared.ended.Ended.{Ended as How}
use Rattle.relay_log.specs.declared.ended.Ended.TheVariants as how
use Rattle.rwloops.specs.declared.fault.Fault.{Fault}
use Rattle.rwloops.specs.declared.fault.Fault.TheVariants as fault
use Rattle.relay_conn.specs.declared.relaying.Relaying.{Relaying}

-- a fault that a socket told, and no lock word
abbrev pub is_device : Fault → Bool
is_device (fault.Device kind) = true
is_device other = false

-- how a dial failed isn't the fault of its target: another one wouldn't be reached either
abbrev pub IsNoFaultOfTarget : Option How → Type 0
IsNoFaultOfTarget failure =
    (failure ≡ Some how.NoMemory)
    ⊎ ((fault : Fault) × (is_device fault ≡ false) × (failure ≡ Some (how_undialled fault)))

module _ {U D R : Type 0} where
  -- no side was read, what the ways begin with is as it was, and what was told of a side is kept
  pub record KeepsDial (old new : Dialing U D R) (why : Why) : Type 0 where
    pub unread : new.client.reader ≡ old.client.reader
    pub target_unread : new.target.reader ≡ old.target.reader
    pub up : new.up ≡ old.up
    pub down : new.down ≡ old.down
    pub connect_by : new.connect_by ≡ old.connect_by
    pub others : new.others ≡ old.others
    pub told : KeepsWhatIsTold old.tasks new.tasks why

  -- it may end by this failure of its target: its time is over, no other target is left, or the
  -- failure was no target's
  abbrev pub MayFail : Dialing U D R → Why → Option How → Type 0
  MayFail dialing why failure =
      IsTime why (given_up_at dialing) ⊎ ((dialing.others ≡ None) ⊎ IsNoFaultOfTarget failure)

  -- its target isn't connected yet: it waits, where no moment has come and nothing has failed, or it
  -- ends by its failure: its time is over, its client has gone, or no other target is left, unless
  -- the failure was no target's
  pub record DialsOn (old new : Dialing U D R) (why : Why) (next : PairNext) : Type 0 where
    pub kept : KeepsDial old new why
    pub timely : next ≡ Waits → IsTime why (given_up_at old) → ⊥
    pub waits : next ≡ Waits → new.failure ≡ old.failure
    pub moves : next ≡ Waits → IsTime why (moves_on_in old.others) → ⊥
    pub closes : next ≡ Closes → IsSome new.failure
    pub last : next ≡ Closes → (stop_told why Up ≡ true) ⊎ MayFail old why new.failure
    pub rests : next ≢ Again

  -- the ways of this client's connection begin: each side feeds the way from it, and each way the side
  -- that it goes to, with the time, the share and what was told that it had; the way to the target
  -- begins with what that gets before any byte of the client's, and the way to the client with nothing
  pub record Begins (client : Acceptance) (dialing : Dialing U D R) (relaying : Relaying U D R) : Type 0 where
    pub client_feeds_up : relaying.up.gate.source ≡ dialing.client.reader
    pub up_feeds_target : KeepsHalf dialing.target.writer relaying.up.gate.target
    pub target_feeds_down : relaying.down.gate.source ≡ dialing.target.reader
    pub down_feeds_client : KeepsHalf dialing.client.writer relaying.down.gate.target
    pub up_state : relaying.up.gate.source_state ≡ dialing.client.state
    pub down_state : relaying.down.gate.source_state ≡ dialing.target.state
    pub up_time : relaying.up.gate.time ≡ dialing.up.time
    pub down_time : relaying.down.gate.time ≡ dialing.down.time
    pub up_first : relaying.up.copying ≡ Bytes (first_bytes client)
    pub down_first : relaying.down.copying ≡ Bytes []
    pub heading : relaying.up.heading ≡ true ↔ 0 < length (first_bytes client)
    pub down_heading : relaying.down.heading ≡ false
    pub up_share : relaying.up.share ≡ dialing.up.share
    pub down_share : relaying.down.share ≡ dialing.down.share
    pub tasks : relaying.tasks ≡ begun_tasks dialing.tasks relaying.up.heading
    pub unfailed : relaying.failure ≡ None

  -- its ways have begun, and gone on at once
  pub record WaysBegin (client : Acceptance) (dialing : Dialing U D R) (relaying : Relaying U D R)
      (next : PairNext) : Type 0 where
    pub fresh : Relaying U D R
    pub begins : Begins client dialing fresh
    pub gone_on : GoneOn fresh relaying why.Again next

  -- its target is connected by now, and its ways have begun, with what was told before
  pub record Connects (client : Acceptance) (old : Dialing U D R) (new : Relaying U D R) (why : Why)
      (next : PairNext) : Type 0 where
    pub dialing : Dialing U D R
    pub kept : KeepsDial old dialing why
    pub begun : WaysBegin client dialing new next

  -- ---- Another target

  -- its target was let go, and the next is to be tried before the loop's next turn: nothing of its
  -- client was read, what the ways begin with is as it was, and nothing of what was told of the
  -- target is kept
  pub record LetsGo (old : Dialing U D R) (new : Seeking U D R) : Type 0 where
    pub client : new.client ≡ old.client
    pub up : new.up ≡ old.up
    pub down : new.down ≡ old.down
    pub connect_by : new.connect_by ≡ old.connect_by
    pub others : new.others ≡ old.others
    pub last : new.last ≡ old.failure
    pub tasks : new.tasks ≡ record old.tasks { down = flow.Waits Read }

  -- its target failed, or wasn't connected soon enough, by what its loop heard, and its loop is told
  pub record SeeksOn (old : Dialing U D R) (new : Seeking U D R) (before after : Dials R) (why : Why)
      (next : PairNext) : Type 0 where
    pub dialing : Dialing U D R
    pub kept : KeepsDial old dialing why
    pub let_go : LetsGo dialing new
    pub failed : IsSome new.last
    pub early : IsTime why (given_up_at old) → ⊥
    pub noted : IsNoted old.others before after
    pub gives_way : next ≡ Again

  -- while it seeks it keeps what is told of its client, which isn't read
  pub record KeepsSeeking (old new : Seeking U D R) (why : Why) : Type 0 where
    pub unread : new.client.reader ≡ old.client.reader
    pub up : new.up ≡ old.up
    pub down : new.down ≡ old.down
    pub connect_by : new.connect_by ≡ old.connect_by
    pub others : new.others ≡ old.others
    pub last : new.last ≡ old.last
    pub told : KeepsWhatIsTold old.tasks new.tasks why

  -- the next target is dialled: by this side, for what is left of the time, with what it had before
  pub record DialsNext (old : Seeking U D R) (new : Dialing U D R) (next : NextTarget R) (now : ℕ) :
      Type 0 where
    pub client : new.client ≡ old.client
    pub up : new.up ≡ old.up
    pub down : new.down ≡ old.down
    pub connect_by : new.connect_by ≡ old.connect_by
    pub tasks : new.tasks ≡ old.tasks
    pub target : new.target ≡ next.side
    pub others : new.others ≡ others_of next.picked next.token now (given_up_at new)
    pub unfailed : new.failure ≡ None
