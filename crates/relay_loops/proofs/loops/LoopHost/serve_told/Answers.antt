use Rattle.std.proofs.Common.{inl, inr, subst}
use Rattle.std.specs.Arc.{arc_value}
use Rattle.readiness.specs.EventLoop.{tasks_of}
use Rattle.relay_conn.specs.Awaiting.{sent_header}
use Rattle.relay_loops.specs.SetUp.{IsServedSeated}
use Rattle.relay_loops.proofs.loops.LoopHost.serve_told.Goals as goal

-- its header was the one that it sent, and it is counted as before
pub returns-in-Ok-clause-heard : goal.returns-in-Ok-clause-heard
returns-in-Ok-clause-heard g c = inr (inl (record {
  header = sent_header c.args.sent;
  told = c.in-Ok.told.acceptance;
  tells = c.in-Ok.ensures.told;
  served = subst (λ counted. IsServedSeated (tasks_of c.args.tasks.now) (tasks_of c.serve_seated.new.tasks)
      c.in-Ok.told.acceptance counted (arc_value c.args.self.now.context.shared).safeguards.connect_ms)
      c.in-Ok.ensures.counted c.serve_seated.ensures.served;
}))
