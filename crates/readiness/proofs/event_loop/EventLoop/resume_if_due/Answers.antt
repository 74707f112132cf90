use Rattle.readiness.specs.EventLoop.{tasks_of}
use Rattle.readiness.proofs.TurnLemmas.{none_due}
use Rattle.readiness.proofs.event_loop.EventLoop.resume_if_due.Goals as goal

pub returns-in-Some-clause-made : goal.returns-in-Some-clause-made
returns-in-Some-clause-made g c =
    none_due g.H.Host.awaited (g.H.Host.tells c.args.host.now) c.args.now (tasks_of c.args.self.now)
