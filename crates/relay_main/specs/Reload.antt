-- What accounts are to say after a reload, and what a session is answered where one is refused.
use Rattle.std.specs.Prelude.{◌≡◌, ℕ, List, Some, length, slice_get}
use Rattle.std.specs.Arc.{arc_value}
use Rattle.std.specs.List.{fold}
use Rattle.std.specs.declared.alloc.Global.{Global}
use Rattle.std.specs.declared.sync.Arc.{Arc}
use Rattle.relay_admin.specs.declared.admin.answers.ReloadAnswer.{ReloadAnswer}
use Rattle.relay_admin.specs.declared.admin.answers.ReloadAnswer.TheVariants.{CannotRead, CannotListen, Verdict}
use Rattle.relay_admin.specs.declared.admin.answers.ReloadAnswer.TheVariants.{NoMemory, Device}
use Rattle.relay_admin.specs.declared.serve_fault.ServeFault.{ServeFault}
use Rattle.relay_admin.specs.declared.serve_fault.ServeFault.TheVariants as fault
use Rattle.relay_facts.specs.Config.{SaysRule}
use Rattle.relay_facts.specs.declared.served_rule.Said.{Said}
use Rattle.readiness.specs.declared.tasks.Tasks.{Tasks}
use Rattle.relay_main.specs.Followed.{follow_each}
use Rattle.relay_main.specs.ListenersEnd.{AreEnded}
use Rattle.relay_main.specs.declared.followed.Followed.{Followed}
use Rattle.relay_main.specs.declared.main_task.MainTask.{MainTask}
use Rattle.relay_main.specs.declared.rule_listeners.Listening.{Listening}
use Rattle.relay_settings.specs.declared.targets.SaidRule.{SaidRule}
use Rattle.relay_shared.specs.BoundPath.{paths_without}
use Rattle.relay_shared.specs.declared.bound_path.BoundPath.{BoundPath}

-- the file, what is bad in it, or an address as at a start; of what else may come to a reload, the
-- poller alone is left
abbrev pub answer_of_fault : ServeFault → ReloadAnswer
answer_of_fault fault.RulesFile = CannotRead
answer_of_fault fault.ConfigFile = CannotRead
answer_of_fault (fault.BadRules verdict) = Verdict verdict
answer_of_fault (fault.Listen name) = CannotListen name
answer_of_fault fault.Memory = NoMemory
answer_of_fault other = Device

-- what the accounts of these rules are to say, in their order
pub record SayRules (rules : List SaidRule) (all : List (Arc Said Global)) : Type 0 where
  pub count : length all ≡ length rules
  pub each : (k : ℕ) (rule : SaidRule) (said : Arc Said Global) → slice_get rules k ≡ Some rule
      → slice_get all k ≡ Some said → SaysRule rule (arc_value said)

-- the paths that are left where these listeners end, in turn: without the first of each one's address
abbrev pub paths_left : List Listening → List BoundPath → List BoundPath
paths_left ended paths = fold (λ left one. paths_without one.listen left) paths ended

module _ {R A : Type 0} where
  -- the listeners that stay follow the accounts of their rules, and then the others end: each other task
  -- is as it was
  abbrev pub GoOver : List Followed → List Listening → Tasks (MainTask R) A → Tasks (MainTask R) A → Type 0
  GoOver followed close old new = AreEnded close (follow_each followed old) new
