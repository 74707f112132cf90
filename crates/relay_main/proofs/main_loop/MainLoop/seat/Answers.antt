use Rattle.readiness.specs.EventLoop.{tasks_of}
use Rattle.relay_main.proofs.BindingLemmas.{stand_put}
use Rattle.relay_main.proofs.main_loop.MainLoop.seat.Goals as goal

-- a session's task was put, and those that stood stand
pub returns-clause-stand : goal.returns-clause-stand
returns-clause-stand g c =
    stand_put (tasks_of c.args.self.now.tasks) (tasks_of c.vacant.new.self) (tasks_of c.put.new.self) (tasks_of c.again.new.self)
    c.in-Ok.held _ _ c.vacant.ensures.kept c.in-Ok.ensures.place c.in-Ok.ensures.unused c.in-Ok-put.ensures.given c.in-Ok-put.ensures.put c.again.ensures.kept
