use Rattle.readiness.specs.LoopToken.{place_in}
use Rattle.readiness.specs.EventLoop.{tasks_of}
use Rattle.readiness.proofs.AlarmLemmas.{taken}
use Rattle.readiness.proofs.event_loop.EventLoop.take.Goals as goal

pub returns-clause-armed : goal.returns-clause-armed
returns-clause-armed g c = taken (tasks_of c.args.self.now) c.take.new.self (place_in c.args.token) c.take.result
    c.take.ensures.apart c.take.ensures.empty c.take.ensures.unknown
