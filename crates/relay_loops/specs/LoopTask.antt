-- A task of a loop: which connection it is, and which moment it awaits.
use Rattle.std.specs.Prelude.{◌≡◌, ℕ, Option, Some, None}
use Rattle.deadline_core.specs.declared.deadline.Deadline.{Deadline}
use Rattle.readiness.specs.declared.loop_token.Side.{Side}
use Rattle.readiness.specs.Tasks.{task_in}
use Rattle.readiness.specs.declared.tasks.Tasks.{Tasks}
use Rattle.relay_conn.specs.Asked.{id_on}
use Rattle.relay_conn.specs.Awaiting.{awaited_until}
use Rattle.relay_conn.specs.Connection.{SideTold, awaited_by}
use Rattle.relay_conn.specs.GoneOn.{ConnectionDials}
use Rattle.relay_conn.specs.declared.connection.Connection.{Connection}
use Rattle.relay_conn.specs.declared.seeking.NextTarget.{NextTarget}
use Rattle.relay_loops.specs.declared.loop_task.LoopTask.{LoopTask}
use Rattle.relay_loops.specs.declared.loop_task.LoopTask.TheVariants as task

module _ {U D R : Type 0} where
  -- the moment that a task awaits
  abbrev pub awaited_by_task : LoopTask U D R → Option ℕ
  awaited_by_task (task.Awaiting client) = Some (awaited_until client)
  awaited_by_task (task.Connection connection) = awaited_by connection

  -- a task is the connection with this id on that side
  abbrev pub HasId : LoopTask U D R → Side → ℕ → Type 0
  HasId (task.Awaiting client) side id = ⊥
  HasId (task.Connection connection) side id = id_on connection side ≡ id

  -- a side of the connection that a task is was told this deadline
  abbrev pub TaskTold : LoopTask U D R → LoopTask U D R → Side → Deadline → Type 0
  TaskTold (task.Connection old) (task.Connection new) side at = SideTold old new side at
  TaskTold old new side at = ⊥

  -- a task that seeks a target dials this one now; one that isn't a connection is as it was
  abbrev pub TaskDials : LoopTask U D R → LoopTask U D R → NextTarget R → ℕ → Type 0
  TaskDials (task.Connection old) (task.Connection new) next now = ConnectionDials old new next now
  TaskDials old new next now = new ≡ old

  -- the connection that a task is, where there is one that is a connection
  abbrev pub connection_as : Option (LoopTask U D R) → Option (Connection U D R)
  connection_as None = None
  connection_as (Some (task.Awaiting client)) = None
  connection_as (Some (task.Connection connection)) = Some connection

  -- the connection that a token names
  abbrev pub connection_at : {A : Type 0} → Tasks (LoopTask U D R) A → ℕ → Option (Connection U D R)
  connection_at tasks token = connection_as (task_in tasks token)
