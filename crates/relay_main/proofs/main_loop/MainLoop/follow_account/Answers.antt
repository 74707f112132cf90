use Rattle.std.proofs.Common.{◌∙◌, sym, ap}
use Rattle.std.specs.Option.{option_copied_mut}
use Rattle.readiness.specs.EventLoop.{tasks_of}
use Rattle.relay_main.proofs.FollowedLemmas.{follows_none, follows_task}
use Rattle.relay_main.proofs.main_loop.MainLoop.follow_account.Goals as goal

-- the task that follows is the one that its token names
pub returns-in-Some-clause-follow : goal.returns-in-Some-clause-follow
returns-in-Some-clause-follow g c =
    follows_task (tasks_of c.args.self.now.tasks) c.args.one.token c.args.one.served c.in-Some.task.now c.follow.new.self
    (sym c.task_mut.ensures.value ∙ ap option_copied_mut c.in-Some.is) c.follow.ensures

-- where it names none all stay
pub returns-in_default-clause-follow : goal.returns-in_default-clause-follow
returns-in_default-clause-follow g c =
    follows_none (tasks_of c.args.self.now.tasks) c.args.one.token c.args.one.served
    (sym c.task_mut.ensures.value ∙ ap option_copied_mut c.in_default.is)
