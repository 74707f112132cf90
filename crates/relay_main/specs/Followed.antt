-- Listeners that stay over a reload, by the accounts of their rules.
use Rattle.std.specs.Prelude.{ℕ, List, [], ◌∷◌, Option, Some, None, find, option_map}
use Rattle.std.specs.Option.{option_and_then}
use Rattle.std.specs.Arc.{arc_value}
use Rattle.std.specs.declared.alloc.Global.{Global}
use Rattle.std.specs.declared.sync.Arc.{Arc}
use Rattle.readiness.specs.Lends.{with_task}
use Rattle.readiness.specs.Tasks.{task_in}
use Rattle.readiness.specs.declared.tasks.Tasks.{Tasks}
use Rattle.relay_admin.specs.declared.rules.addr.Addr.{Addr}
use Rattle.relay_admin.specs.rules.Addr.{address_of, same_address}
use Rattle.relay_facts.specs.declared.served_rule.ServedRule.{ServedRule}
use Rattle.relay_main.specs.Accounts.{account_at}
use Rattle.relay_main.specs.declared.followed.Followed.{Followed}
use Rattle.relay_main.specs.declared.main_task.MainTask.{MainTask}
use Rattle.relay_main.specs.declared.main_task.MainTask.TheVariants as task
use Rattle.relay_main.specs.declared.rule_listeners.Listening.{Listening}
use Rattle.relay_main.specs.declared.wanted_listeners.WantedListener.{WantedListener}

-- the token of the first of these that is at this address
abbrev pub token_for : Addr → List Listening → Option ℕ
token_for listen all = option_map (λ one. one.token)
    (find (λ one. same_address (address_of one.listen) (address_of listen)) all)

-- what is made of a token and an account
abbrev pub followed_by : Followed → ℕ × ServedRule
followed_by one = (one.token, arc_value one.served)

-- a listener that stays among these, by its token, with the account of its rule among those
abbrev pub follows : List Listening → List (Arc ServedRule Global) → WantedListener → Option (ℕ × ServedRule)
follows standing accounts wanted = option_and_then
    (λ token. option_map (λ account. (token, arc_value account)) (account_at wanted.rule.listen accounts))
    (token_for wanted.listen standing)

-- a task that accepts by a rule accepts by this account; any other is as it was
abbrev pub following : {R : Type 0} → Arc ServedRule Global → MainTask R → MainTask R
following account (task.Rule accepts) = task.Rule (record accepts { served = account })
following account other = other

module _ {R A : Type 0} where
  -- the task that a token names, if it names one, follows an account
  abbrev pub follow_task : ℕ → Arc ServedRule Global → Option (MainTask R) → Tasks (MainTask R) A
      → Tasks (MainTask R) A
  follow_task token account None tasks = tasks
  follow_task token account (Some task) tasks = with_task tasks token (following account task)

  -- the task of a listener that stays follows the account of its rule
  abbrev pub follow_one : Followed → Tasks (MainTask R) A → Tasks (MainTask R) A
  follow_one one tasks = follow_task one.token one.served (task_in tasks one.token) tasks

  -- those of all of these do
  abbrev pub follow_each : List Followed → Tasks (MainTask R) A → Tasks (MainTask R) A
  follow_each [] tasks = tasks
  follow_each (one ∷ more) tasks = follow_each more (follow_one one tasks)
