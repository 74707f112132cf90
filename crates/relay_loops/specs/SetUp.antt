-- A client that was accepted, and the task that comes of it.
use Rattle.std.specs.Prelude.{◌≡◌, ◌⊎◌, ℕ, false, Option}
use Rattle.std.specs.Arc.{arc_value}
use Rattle.std.specs.declared.alloc.Global.{Global}
use Rattle.std.specs.declared.sync.Arc.{Arc}
use Rattle.proxy_header.specs.declared.header.Header.{Header}
use Rattle.readiness.specs.Tasks.{IsPut, SameTasks}
use Rattle.readiness.specs.declared.loop_token.Place.{Place}
use Rattle.readiness.specs.declared.tasks.Tasks.{Tasks}
use Rattle.relay_conn.specs.Asked.{counted_in}
use Rattle.relay_conn.specs.Awaiting.{client_awaited, counted_awaited}
use Rattle.relay_conn.specs.Connection.{IfDialing}
use Rattle.relay_conn.specs.Deadlines.{IsIdleEnd}
use Rattle.relay_conn.specs.SetUp.{IsBegunWith, IsSetUp}
use Rattle.relay_conn.specs.Trial.{IsNoTrial, IsTrial, last_of}
use Rattle.relay_conn.specs.declared.awaited.Awaiting.{Awaiting}
use Rattle.relay_conn.specs.declared.connection.Connection.{Connection}
use Rattle.relay_conn.specs.declared.refused.Refused.{Refused}
use Rattle.relay_conn.specs.declared.refused.Refused.TheVariants as refused
use Rattle.relay_conn.specs.declared.trial.NoTrial.{NoTrial}
use Rattle.relay_conn.specs.declared.trial.Trial.{Trial}
use Rattle.relay_facts.specs.Acceptance.{IsSameClient}
use Rattle.relay_facts.specs.Told.{IsToldBy}
use Rattle.relay_facts.specs.declared.connection_facts.Acceptance.{Acceptance}
use Rattle.relay_facts.specs.declared.connection_facts.ConnectionFacts.{ConnectionFacts}
use Rattle.relay_loops.specs.declared.loop_task.LoopTask.{LoopTask}
use Rattle.relay_loops.specs.declared.loop_task.LoopTask.TheVariants as task
use Rattle.relay_shared.specs.Inbox.{IsSeated}
use Rattle.relay_shared.specs.declared.inbox.Counted.{Counted}
use Rattle.target_pick.specs.Tried.{was_tried}
use Rattle.target_pick.specs.declared.tried.Tried.{Tried}

-- a connection was begun for a client for whom no target was tried before
pub record IsFirstTrial (client : Acceptance) (trial : Trial) : Type 0 where
  pub none : Tried
  pub untried : (place : ℕ) → was_tried none place ≡ false
  pub begun : IsTrial client none trial

-- where targets refused a client, all were tried that may take it, or there was no descriptor
abbrev pub IsRefusedFor : Acceptance → Refused → Type 0
IsRefusedFor client (refused.Target last) =
    (none : NoTrial) × IsNoTrial client none × (last ≡ last_of none)
IsRefusedFor client other = Unit {0}

module _ {U D R : Type 0} where
  -- a connection is set up for this client, of whom it has all that is known: with the first of the client's
  -- targets, with what counts it, for this place, and with so many milliseconds for its target
  pub record IsConnectionFor (client : Acceptance) (counted : Counted) (connect_ms : Option ℕ)
      (at : Place) (connection : Connection U D R) : Type 0 where
    pub facts : Arc ConnectionFacts Global
    pub same : IsSameClient client (arc_value facts).acceptance
    pub trial : Trial
    pub first : IsFirstTrial (arc_value facts).acceptance trial
    pub begun : IfDialing connection.phase (IsBegunWith trial at)
    pub connect_by : Option ℕ
    pub time : IsIdleEnd connect_ms connect_by
    pub set_up : IsSetUp facts at connect_by connection
    pub counts : counted_in connection ≡ counted

  -- such a connection is a task more, and all other tasks are as they were
  pub record IsServed {A : Type 0} (old new : Tasks (LoopTask U D R) A) (client : Acceptance)
      (counted : Counted) (connect_ms : Option ℕ) : Type 0 where
    pub at : Place
    pub connection : Connection U D R
    pub set_up : IsConnectionFor client counted connect_ms at connection
    pub put : IsPut old new at (task.Connection connection)

  -- a client is served so, or nothing is left of it
  abbrev pub IsServedOrGone : {A : Type 0} → (old new : Tasks (LoopTask U D R) A) → Acceptance → Counted
      → Option ℕ → Type 0
  IsServedOrGone old new client counted connect_ms =
      IsServed old new client counted connect_ms ⊎ SameTasks old new

  -- a client that is to say who it is is a task more, and all other tasks are as they were
  pub record IsKeptWaiting {A : Type 0} (old new : Tasks (LoopTask U D R) A) (client : Acceptance)
      (counted : Counted) : Type 0 where
    pub at : Place
    pub awaiting : Awaiting
    pub acceptance : client_awaited awaiting ≡ client
    pub counts : counted_awaited awaiting ≡ counted
    pub put : IsPut old new at (task.Awaiting awaiting)

  -- a client is served so with the seat that its source has for it, or nothing is left of it
  pub record IsServedSeated {A : Type 0} (old new : Tasks (LoopTask U D R) A) (client : Acceptance)
      (counted : Counted) (connect_ms : Option ℕ) : Type 0 where
    pub counts : Counted
    pub seated : IsSeated counted counts
    pub served : IsServedOrGone old new client counts connect_ms

  -- one that has said who it is is served as the one that its header tells, or nothing is left of it
  pub record IsServedAsTold {A : Type 0} (old new : Tasks (LoopTask U D R) A) (client : Acceptance)
      (counted : Counted) (connect_ms : Option ℕ) : Type 0 where
    pub header : Header
    pub told : Acceptance
    pub tells : IsToldBy header client told
    pub served : IsServedSeated old new told counted connect_ms

  -- a client that is to say who it is is awaited, or has said it, or nothing is left of it: it is never
  -- served as the one that its socket names, unless its header says so
  abbrev pub IsAwaitedOrTold : {A : Type 0} → (old new : Tasks (LoopTask U D R) A) → Acceptance → Counted
      → Option ℕ → Type 0
  IsAwaitedOrTold old new client counted connect_ms =
      IsKeptWaiting old new client counted
      ⊎ (IsServedAsTold old new client counted connect_ms ⊎ SameTasks old new)
