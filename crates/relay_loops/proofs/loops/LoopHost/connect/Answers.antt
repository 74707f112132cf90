use Rattle.readiness.specs.EventLoop.{tasks_of}
use Rattle.readiness.specs.Tasks.{next_place}
use Rattle.relay_loops.proofs.SetUpLemmas.{put_over}
use Rattle.relay_loops.specs.declared.loop_task.LoopTask.TheVariants as task
use Rattle.relay_loops.proofs.loops.LoopHost.connect.Goals as goal

-- the place for which it was set up is the one into which it was put
pub returns-clause-served : goal.returns-clause-served
returns-clause-served g c = record {
  at = next_place (tasks_of c.connection.new.tasks);
  connection = c.in_ok-connection.connection;
  set_up = c.in_ok-connection.ensures.set_up;
  put = put_over (tasks_of c.args.tasks.now) (tasks_of c.connection.new.tasks) (tasks_of c.put.new.tasks)
      (next_place (tasks_of c.connection.new.tasks)) (task.Connection c.in_ok-connection.connection)
      c.connection.ensures.tasks (c.put.ensures.put c.in_ok-connection.ensures.placed);
}
