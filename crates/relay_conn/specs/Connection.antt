-- A connection: its phase, and the moment that it awaits.
use Rattle.std.specs.Prelude.{ℕ, Option, Some, None}
use Rattle.fd_descriptor.specs.TaskHalf.{descriptor_of_half}
use Rattle.readiness.specs.declared.loop_token.Side.{Side}
use Rattle.readiness.specs.declared.loop_token.Side.TheVariants.{First, Second}
use Rattle.relay_shared.specs.Drained.{WasDrained}
use Rattle.base_types.specs.declared.direction.Dir.TheVariants as dir
use Rattle.deadline_core.specs.Moments.{earlier_of}
use Rattle.relay_core.specs.declared.ways.Way.{Way}
use Rattle.relay_core.specs.declared.ways.Way.TheVariants.{Up, Down}
use Rattle.deadline_core.specs.declared.call_deadlines.CallDeadlines.{CallDeadlines}
use Rattle.deadline_core.specs.declared.deadline.Deadline.{Deadline}
use Rattle.relay_conn.specs.Deadlines.{limit_moment, gives_up_at, TellsCalls}
use Rattle.relay_conn.specs.Others.{moves_on_in}
use Rattle.relay_conn.specs.declared.connection.Connection.{Connection}
use Rattle.relay_conn.specs.declared.connection.Phase.{Phase}
use Rattle.relay_conn.specs.declared.connection.Phase.TheVariants as phase
use Rattle.relay_conn.specs.declared.dialing.Dialing.{Dialing}
use Rattle.relay_conn.specs.declared.relaying.Relaying.{Relaying}
use Rattle.relay_conn.specs.declared.seeking.Seeking.{Seeking}

-- the reads of a side and the writes to it were told when they give up, of both ways' calls before and
-- after
abbrev pub TellsSide : (up new_up down new_down : CallDeadlines) → Side → Deadline → Type 0
TellsSide up new_up down new_down First at =
    TellsCalls up new_up dir.Read at × TellsCalls down new_down dir.Write at
TellsSide up new_up down new_down Second at =
    TellsCalls down new_down dir.Read at × TellsCalls up new_up dir.Write at

module _ {U D R : Type 0} where
  -- the moment at which a target is given up: when it is to be connected, or a side's read gives up
  abbrev pub given_up_at : Dialing U D R → Option ℕ
  given_up_at d = earlier_of d.connect_by
      (earlier_of (limit_moment d.up.time.deadlines dir.Read) (limit_moment d.down.time.deadlines dir.Read))

  -- the same of one between two targets
  abbrev pub seeks_until : Seeking U D R → Option ℕ
  seeks_until s = earlier_of s.connect_by
      (earlier_of (limit_moment s.up.time.deadlines dir.Read) (limit_moment s.down.time.deadlines dir.Read))

  -- the moment at which a way gives up
  abbrev pub gives_up : Relaying U D R → Way → Option ℕ
  gives_up r Up = gives_up_at r.up.gate.time.deadlines r.tasks.up
  gives_up r Down = gives_up_at r.down.gate.time.deadlines r.tasks.down

  -- the moment at which the first of both ways gives up
  abbrev pub first_given_up : Relaying U D R → Option ℕ
  first_given_up r = earlier_of (gives_up r Up) (gives_up r Down)

  -- the moment that a phase awaits
  abbrev pub awaited_in : Option (Phase U D R) → Option ℕ
  awaited_in None = None
  awaited_in (Some (phase.Dialing d)) = earlier_of (moves_on_in d.others) (given_up_at d)
  awaited_in (Some (phase.Seeking s)) = seeks_until s
  awaited_in (Some (phase.Relaying r)) = first_given_up r

  -- the moment that a connection awaits
  abbrev pub awaited_by : Connection U D R → Option ℕ
  awaited_by connection = awaited_in connection.phase

  -- what holds of the target that is dialled, where one is
  abbrev pub IfDialing : Option (Phase U D R) → (Dialing U D R → Type 0) → Type 0
  IfDialing (Some (phase.Dialing d)) P = P d
  IfDialing other P = Unit {0}

  -- what holds of a connection between two targets
  abbrev pub IfSeeking : Option (Phase U D R) → (Seeking U D R → Type 0) → Type 0
  IfSeeking (Some (phase.Seeking s)) P = P s
  IfSeeking other P = Unit {0}

  abbrev pub IsSeeking : Option (Phase U D R) → Type 0
  IsSeeking (Some (phase.Seeking s)) = Unit {0}
  IsSeeking other = ⊥

  abbrev pub IsDialing : Option (Phase U D R) → Type 0
  IsDialing (Some (phase.Dialing d)) = Unit {0}
  IsDialing other = ⊥

  -- what holds of the ways, where the target was connected
  abbrev pub IfRelaying : Option (Phase U D R) → (Relaying U D R → Type 0) → Type 0
  IfRelaying (Some (phase.Relaying r)) P = P r
  IfRelaying other P = Unit {0}

  -- the target was connected
  abbrev pub IsRelaying : Option (Phase U D R) → Type 0
  IsRelaying (Some (phase.Relaying r)) = Unit {0}
  IsRelaying other = ⊥

  -- the shares of both ways
  abbrev pub up_share : Option (Phase U D R) → Option ℕ
  up_share None = None
  up_share (Some (phase.Dialing d)) = Some d.up.share
  up_share (Some (phase.Seeking s)) = Some s.up.share
  up_share (Some (phase.Relaying r)) = Some r.up.share

  abbrev pub down_share : Option (Phase U D R) → Option ℕ
  down_share None = None
  down_share (Some (phase.Dialing d)) = Some d.down.share
  down_share (Some (phase.Seeking s)) = Some s.down.share
  down_share (Some (phase.Relaying r)) = Some r.down.share

  -- the shares of a connection
  abbrev pub up_share_of : Connection U D R → Option ℕ
  up_share_of connection = up_share connection.phase

  abbrev pub down_share_of : Connection U D R → Option ℕ
  down_share_of connection = down_share connection.phase

  -- the descriptor of a side of a connection was drained; between two targets there is none of the
  -- target
  abbrev pub DrainedIn : Option (Phase U D R) → Side → Type 0
  DrainedIn None side = ⊥
  DrainedIn (Some (phase.Dialing d)) First = WasDrained (descriptor_of_half d.client.reader)
  DrainedIn (Some (phase.Dialing d)) Second = WasDrained (descriptor_of_half d.target.reader)
  DrainedIn (Some (phase.Seeking s)) First = WasDrained (descriptor_of_half s.client.reader)
  DrainedIn (Some (phase.Seeking s)) Second = ⊥
  DrainedIn (Some (phase.Relaying r)) First = WasDrained (descriptor_of_half r.up.gate.source)
  DrainedIn (Some (phase.Relaying r)) Second = WasDrained (descriptor_of_half r.down.gate.source)

  abbrev pub SideDrained : Connection U D R → Side → Type 0
  SideDrained connection side = DrainedIn connection.phase side

  -- the calls of a side of a connection were told when they give up
  abbrev pub ToldIn : Option (Phase U D R) → Option (Phase U D R) → Side → Deadline → Type 0
  ToldIn (Some (phase.Dialing old)) (Some (phase.Dialing new)) side at =
      TellsSide old.up.time.deadlines new.up.time.deadlines
      old.down.time.deadlines new.down.time.deadlines side at
  ToldIn (Some (phase.Seeking old)) (Some (phase.Seeking new)) First at =
      TellsSide old.up.time.deadlines new.up.time.deadlines
      old.down.time.deadlines new.down.time.deadlines First at
  ToldIn (Some (phase.Relaying old)) (Some (phase.Relaying new)) side at =
      TellsSide old.up.gate.time.deadlines new.up.gate.time.deadlines
      old.down.gate.time.deadlines new.down.gate.time.deadlines side at
  ToldIn old new side at = ⊥

  abbrev pub SideTold : Connection U D R → Connection U D R → Side → Deadline → Type 0
  SideTold old new side at = ToldIn old.phase new.phase side at
