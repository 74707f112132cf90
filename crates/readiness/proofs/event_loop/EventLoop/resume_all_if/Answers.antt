use Rattle.readiness.specs.EventLoop.{tasks_of}
use Rattle.readiness.proofs.TurnLemmas.{nobody_goes}
use Rattle.readiness.proofs.event_loop.EventLoop.resume_all_if.Goals as goal

pub returns-then-not-all-clause-made : goal.returns-then-not-all-clause-made
returns-then-not-all-clause-made g c =
    nobody_goes g.H.Host.awaited (g.H.Host.tells c.args.host.now) c.args.all c.args.why (tasks_of c.args.self.now)
    c.if-not-all.true
