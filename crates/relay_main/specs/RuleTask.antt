-- A rule's task of the main thread's loop.
use Rattle.std.specs.Prelude.{Option, Some, None}
use Rattle.relay_main.specs.declared.main_task.MainTask.{MainTask}
use Rattle.relay_main.specs.declared.main_task.MainTask.TheVariants as task
use Rattle.relay_main.specs.declared.rule_task.RuleListener.{RuleListener}
use Rattle.relay_main.specs.declared.rule_task.RuleTask.{RuleTask}

module _ {R : Type 0} where
  -- the task, if it accepts by a rule
  abbrev pub rule_task_in : Option (MainTask R) → Option (RuleTask R)
  rule_task_in (Some (task.Rule accepts)) = Some accepts
  rule_task_in other = None

  -- the listener from which it accepts
  abbrev pub listener_in : Option (MainTask R) → Option (RuleListener R)
  listener_in (Some (task.Rule accepts)) = Some accepts.listener
  listener_in other = None
