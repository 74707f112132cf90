use Rattle.readiness.specs.EventLoop.{tasks_of}
use Rattle.readiness.proofs.TurnLemmas.{late_then}
use Rattle.readiness.proofs.event_loop.EventLoop.resume_timed.Goals as goal

pub returns-clause-made : goal.returns-clause-made
returns-clause-made g c = late_then g.H.Host.awaited (g.H.Host.tells c.args.host.now) (g.H.Host.tells c.resume_late.new.host)
    (g.H.Host.tells c.resume_if_due.new.host) c.args.now (tasks_of c.args.self.now) c.resume_late.new.self
    (tasks_of c.resume_if_due.new.self) c.resume_late.ensures c.resume_if_due.ensures.made
