-- Which connection of a loop a request is to, and what it is told.
use Rattle.std.specs.Prelude.{◌≡◌, Option, Some, None, Ok, Err}
use Rattle.readiness.specs.LoopToken.{side_in}
use Rattle.readiness.specs.declared.loop_token.Side.{Side}
use Rattle.readiness.specs.declared.loop_token.Side.TheVariants.{First}
use Rattle.readiness.specs.declared.tasks.Tasks.{Tasks}
use Rattle.relay_conn.specs.Asked.{id_on}
use Rattle.relay_conn.specs.Connection.{SideDrained}
use Rattle.relay_conn.specs.declared.connection.Connection.{Connection}
use Rattle.relay_loops.specs.LoopTask.{connection_at}
use Rattle.relay_loops.specs.declared.loop_task.LoopTask.{LoopTask}
use Rattle.relay_shared.specs.Index.{gone_id}
use Rattle.relay_shared.specs.declared.requests.Answer.{Answer}
use Rattle.relay_shared.specs.declared.requests.Answer.TheVariants as answer
use Rattle.relay_shared.specs.declared.requests.Question.{Question}

module _ {U D R : Type 0} where
  -- the loop has the connection with the id that is asked: its token names a connection, which has that id
  -- on the token's side
  abbrev pub IsHere : {A : Type 0} → Tasks (LoopTask U D R) A → Question → Type 0
  IsHere tasks question = (task : Connection U D R)
      × (connection_at tasks question.token ≡ Some task)
      × (id_on task (side_in question.token) ≡ question.id)

  -- where there was a connection, a close is told that its connection has left the index
  abbrev pub TellsClose : Option (Connection U D R) → Answer → Type 0
  TellsClose None told = told ≡ answer.Close None
  TellsClose (Some task) (answer.Close (Some gone)) =
      gone_id gone ≡ id_on task First
  TellsClose (Some task) other = ⊥

  -- where there was a connection, a drain is told what it did: by `Ok` the side of its connection is drained
  abbrev pub TellsDrain : Option (Connection U D R) → Side → Answer → Type 0
  TellsDrain None side told = told ≡ answer.Drain None
  TellsDrain (Some task) side (answer.Drain (Some (Ok done))) = SideDrained task side
  TellsDrain (Some task) side (answer.Drain (Some (Err fault))) = Unit {0}
  TellsDrain (Some task) side other = ⊥

  -- where there was a connection, a deadline is told what came of it
  abbrev pub TellsDeadline : Option (Connection U D R) → Answer → Type 0
  TellsDeadline None told = told ≡ answer.Deadline None
  TellsDeadline (Some task) (answer.Deadline (Some done)) = Unit {0}
  TellsDeadline (Some task) other = ⊥
