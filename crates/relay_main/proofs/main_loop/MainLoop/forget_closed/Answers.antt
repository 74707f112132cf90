use Rattle.std.proofs.Common.{rules}
use Rattle.std.specs.Prelude.{is_some}
use Rattle.std.proofs.lemmas.Fn.{filter_same}
use Rattle.readiness.specs.EventLoop.{tasks_of}
use Rattle.readiness.specs.Tasks.{task_in}
use Rattle.relay_main.specs.declared.rule_listeners.Listening.{Listening}
use Rattle.relay_main.proofs.main_loop.MainLoop.forget_closed.Goals as goal

pub returns-clause-left : goal.returns-clause-left
returns-clause-left g c =
    filter_same _ (λ (one : Listening). is_some (task_in (tasks_of c.args.self.now.tasks) one.token)) _
    (λ x b f' k. search rules) _ _ c.retain.ensures.filtered
