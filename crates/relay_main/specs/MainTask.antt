-- What the main thread's loop sees of a task: the moment that it awaits, and its cells.
use Rattle.std.specs.Prelude.{ℕ, Option, Some, None}
use Rattle.std.specs.Arc.{arc_value}
use Rattle.fd_descriptor.specs.declared.poll_cell.PollCell.{PollCell}
use Rattle.readiness.specs.declared.loop_token.Side.{Side}
use Rattle.readiness.specs.declared.loop_token.Side.TheVariants.{First}
use Rattle.relay_main.specs.declared.main_task.MainTask.{MainTask}
use Rattle.relay_main.specs.declared.main_task.MainTask.TheVariants as task

module _ {R : Type 0} where
  -- the moment that a task awaits: a check always does, and one that accepts in its pauses
  abbrev pub awaited_by : MainTask R → Option ℕ
  awaited_by (task.Rule accepts) = accepts.paused_until
  awaited_by (task.Admin accepts) = accepts.paused_until
  awaited_by (task.Check check) = Some check.until
  awaited_by (task.Session place) = None

  -- the cell of a task's descriptor on a side: a listener of a rule has one, on the first
  abbrev pub cell_on : MainTask R → Side → Option PollCell
  cell_on (task.Rule accepts) First = Some (arc_value accepts.listener.cell)
  cell_on other side = None
