-- What the tasks of a server need, as it sees them.
use Rattle.std.specs.Prelude.{◌≡◌, ℕ, List, ◌∷◌, ◌++◌, Option, Some, None}
use Rattle.std.specs.Arc.{arc_value}
use Rattle.fd_descriptor.specs.declared.poll_cell.PollCell.{PollCell}
use Rattle.metrics_server.specs.declared.desk.Desk.{Desk}
use Rattle.metrics_server.specs.declared.desk.Task.{Task}
use Rattle.metrics_server.specs.declared.desk.Task.TheVariants as task
use Rattle.metrics_server.specs.Answer.{metered_of_service}

-- the first of a list that has one
abbrev pub IsFirstOf : List ℕ → Option ℕ → Type 0
IsFirstOf items found = (first : ℕ) × (rest : List ℕ) × (items ≡ first ∷ rest) × (found ≡ Some first)

-- what came stands behind what was there
abbrev pub StandsBehind : {A : Type 0} → List A → List A → Type 0
StandsBehind {A} old new = (came : List A) × (new ≡ old ++ came)

module _ {R M : Type 0} where
  -- whose figures are told
  abbrev pub metered_at : Desk R M → M
  metered_at desk = metered_of_service desk.service

module _ {R : Type 0} where
  -- the cell of a task's descriptor: a client has one
  abbrev pub cell_of_task : Task R → Option PollCell
  cell_of_task (task.Listener listener) = None
  cell_of_task (task.Client client) = Some (arc_value client.cell)
