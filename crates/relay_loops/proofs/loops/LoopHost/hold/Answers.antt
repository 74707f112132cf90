use Rattle.std.proofs.Common.{inl}
use Rattle.readiness.specs.EventLoop.{tasks_of}
use Rattle.readiness.specs.Tasks.{next_place}
use Rattle.relay_loops.proofs.SetUpLemmas.{put_over}
use Rattle.relay_loops.specs.declared.loop_task.LoopTask.TheVariants as task
use Rattle.relay_loops.proofs.loops.LoopHost.hold.Goals as goal

-- the place that was made for it is the one into which it was put
pub returns-in-Ok-clause-heard : goal.returns-in-Ok-clause-heard
returns-in-Ok-clause-heard g c = inl (record {
  at = next_place (tasks_of c.registered.new.tasks);
  awaiting = c.registered.new.client;
  acceptance = c.registered.ensures.acceptance;
  counts = c.registered.ensures.counted;
  put = put_over (tasks_of c.args.tasks.now) (tasks_of c.registered.new.tasks) (tasks_of c.put.new.tasks)
      (next_place (tasks_of c.registered.new.tasks)) (task.Awaiting c.registered.new.client)
      c.registered.ensures.tasks (c.put.ensures.put c.in-Ok.ensures.placed);
})
