use Rattle.readiness.specs.EventLoop.{tasks_of}
use Rattle.readiness.proofs.AlarmLemmas.{still_armed}
use Rattle.readiness.proofs.event_loop.EventLoop.again.Goals as goal

pub returns-clause-armed : goal.returns-clause-armed
returns-clause-armed g c = still_armed (tasks_of c.args.self.now) c.give_way.new.self c.give_way.ensures.still
