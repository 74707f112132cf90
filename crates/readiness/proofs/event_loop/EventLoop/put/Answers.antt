use Rattle.readiness.specs.EventLoop.{tasks_of}
use Rattle.readiness.proofs.AlarmLemmas.{handed_back}
use Rattle.readiness.proofs.event_loop.EventLoop.put.Goals as goal

pub returns-clause-armed : goal.returns-clause-armed
returns-clause-armed g c = handed_back (tasks_of c.args.self.now) c.put.new.self c.put.result c.put.ensures.still
