-- Which connection of a loop a request is to.
use Rattle.std.proofs.Common.{◌≡◌, ◌↔◌, ◌∙◌, sym, ap, ℕ, Bool, true, Some}
use Rattle.readiness.specs.LoopToken.{side_in}
use Rattle.readiness.specs.Tasks.{task_in}
use Rattle.readiness.specs.declared.tasks.Tasks.{Tasks}
use Rattle.relay_conn.specs.Asked.{id_on}
use Rattle.relay_conn.specs.declared.connection.Connection.{Connection}
use Rattle.relay_loops.specs.LoopTask.{HasId, connection_as, connection_at}
use Rattle.relay_loops.specs.Requests.{IsHere}
use Rattle.relay_loops.specs.declared.loop_task.LoopTask.{LoopTask}
use Rattle.relay_loops.specs.declared.loop_task.LoopTask.TheVariants as task
use Rattle.relay_shared.specs.declared.requests.Question.{Question}

module _ {U D R A : Type 0} where
  -- the task that the token names is the connection with the id that is asked exactly if it is there
  same_id : (tasks : Tasks (LoopTask U D R) A) (question : Question) (one : LoopTask U D R)
      → connection_at tasks question.token ≡ connection_as (Some one)
      → HasId one (side_in question.token) question.id ↔ IsHere tasks question
  same_id tasks question (task.Awaiting client) named = (
    λ has. elim has [ ],
    λ here. (let gone : connection_as (Some (task.Awaiting client)) ≡ Some here.0 = sym named ∙ here.1 in cc),
  )
  same_id tasks question (task.Connection connection) named = (
    λ has. (connection, named, has),
    λ here. (let one : connection ≡ here.0 = cc in
        ap (λ (t : Connection U D R). id_on t (side_in question.token)) one ∙ here.2),
  )

  pub is_there : (tasks : Tasks (LoopTask U D R) A) (question : Question) (one : LoopTask U D R) (said : Bool)
      → task_in tasks question.token ≡ Some one
      → ((said ≡ true) ↔ HasId one (side_in question.token) question.id)
      → ((said ≡ true) ↔ IsHere tasks question)
  is_there tasks question one said named told =
      let same = same_id tasks question one (ap connection_as named) in
      (λ is. same.0 (told.0 is), λ here. told.1 (same.1 here))
