-- What a loop of a service has.
use Rattle.std.specs.Prelude.{ℕ, IsSomeAnd, Option, Some, None}
use Rattle.std.specs.Arc.{arc_value}
use Rattle.fd_descriptor.specs.declared.poll_cell.PollCell.{PollCell}
use Rattle.readiness.specs.declared.loop_token.Side.{Side}
use Rattle.readiness.specs.declared.loop_token.Side.TheVariants.{First, Second}
use Rattle.readiness.specs.Tasks.{task_in}
use Rattle.readiness.specs.declared.tasks.Tasks.{Tasks}
use Rattle.net.specs.declared.served.Served.{Served}

-- one of the loop's tasks was begun of this one
pub record IsBegunIn {T R A : Type 0} (begins : T → T → Type 0) (first : T) (tasks : Tasks (Served T R) A)
    : Type 0 where
  pub token : ℕ
  pub stands : IsSomeAnd (task_in tasks token) (λ served. begins first served.task)

-- the cell of a task's connection on a side: it has the first token, the task's own time the second
abbrev pub cell_on : {T R : Type 0} → Served T R → Side → Option PollCell
cell_on served First = Some (arc_value served.cell)
cell_on served Second = None
