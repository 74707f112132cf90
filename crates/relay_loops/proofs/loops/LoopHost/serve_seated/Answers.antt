use Rattle.std.proofs.Common.{◌∙◌, refl, subst, inr, None}
use Rattle.std.specs.Arc.{arc_value}
use Rattle.readiness.specs.EventLoop.{tasks_of}
use Rattle.relay_shared.specs.Inbox.{seated}
use Rattle.relay_loops.specs.SetUp.{IsServedOrGone}
use Rattle.relay_loops.proofs.loops.LoopHost.serve_seated.Goals as goal

-- it is served with the seat that its source had for it
pub returns-in-Ok-clause-served : goal.returns-in-Ok-clause-served
returns-in-Ok-clause-served g c = record {
  counts = c.in-Ok.client.counted;
  seated = c.in-Ok.ensures.counted;
  served = subst (λ counted. IsServedOrGone (tasks_of c.args.tasks.now) (tasks_of c.serve_client.new.tasks)
      c.args.client.acceptance counted (arc_value c.args.self.now.context.shared).safeguards.connect_ms)
      c.told.ensures.counted
      (subst (λ acceptance. IsServedOrGone (tasks_of c.args.tasks.now) (tasks_of c.serve_client.new.tasks)
      acceptance c.told.result.counted (arc_value c.args.self.now.context.shared).safeguards.connect_ms)
      (c.told.ensures.acceptance ∙ c.in-Ok.ensures.acceptance) c.serve_client.ensures.served);
}

-- nothing is left of one whose source has none
pub returns-in-Err-clause-served : goal.returns-in-Err-clause-served
returns-in-Err-clause-served g c = record {
  counts = seated None c.args.client.counted;
  seated = (None, refl);
  served = inr (λ token. refl);
}
