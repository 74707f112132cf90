-- What a bind adds to the tasks of the main thread's loop.
use Rattle.std.specs.Prelude.{◌≡◌, ◌⊎◌, ◌++◌, ◌∷◌, [], ℕ, List, true, Option, Some, None, ⊤}
use Rattle.arrayvec.specs.declared.array_string.ArrayString.{ArrayString}
use Rattle.std.specs.Arc.{arc_value}
use Rattle.std.specs.declared.alloc.Global.{Global}
use Rattle.std.specs.declared.sync.Arc.{Arc}
use Rattle.readiness.specs.LoopToken.{place_in}
use Rattle.readiness.specs.Tasks.{task_in}
use Rattle.readiness.specs.declared.tasks.Tasks.{Tasks}
use Rattle.relay_admin.specs.ServeFault.{IsRunFault}
use Rattle.relay_admin.specs.declared.rules.addr.Addr.{Addr}
use Rattle.relay_admin.specs.declared.serve_fault.ServeFault.{ServeFault}
use Rattle.relay_admin.specs.declared.serve_fault.ServeFault.TheVariants.{Listen, Device, Memory}
use Rattle.relay_shared.specs.BoundPath.{bound_addr, paths_in}
use Rattle.relay_shared.specs.declared.bound_path.BoundPath.{BoundPath}
use Rattle.relay_shared.specs.declared.bound_path.BoundPaths.{BoundPaths}
use Rattle.relay_facts.specs.declared.served_rule.ServedRule.{ServedRule}
use Rattle.relay_main.specs.Accounts.{is_account_of}
use Rattle.relay_main.specs.declared.rule_listeners.Listening.{Listening}
use Rattle.relay_main.specs.declared.wanted_listeners.WantedListener.{WantedListener}
use Rattle.relay_main.specs.declared.main_task.MainTask.{MainTask}
use Rattle.relay_main.specs.declared.main_task.MainTask.TheVariants as task

-- each task that stood stands
abbrev pub StillStand : {T A : Type 0} → Tasks T A → Tasks T A → Type 0
StillStand old new = (token : ℕ) (task : _) → task_in old token ≡ Some task
    → task_in new token ≡ Some task

-- the account by which a task accepts, if it accepts by a rule
abbrev pub account_in : {R : Type 0} → Option (MainTask R) → Option (Arc ServedRule Global)
account_in (Some (task.Rule accepts)) = Some accepts.served
account_in other = None

-- where a task listens, if it accepts by a rule
abbrev pub listening_in : {R : Type 0} → Option (MainTask R) → Option Addr
listening_in (Some (task.Rule accepts)) = Some accepts.listener.facts.listen
listening_in other = None

module _ {R A : Type 0} where
  -- a task accepts at the address of this listener, by an account of its rule's own address
  abbrev pub IsListenedFor : WantedListener → Tasks (MainTask R) A → Type 0
  IsListenedFor wanted tasks = (token : ℕ) × (account : Arc ServedRule Global)
      × (account_in (task_in tasks token) ≡ Some account)
      × (is_account_of wanted.rule.listen account ≡ true)
      × (listening_in (task_in tasks token) ≡ Some wanted.listen)

  -- the task with this token accepts by this account, at this address, and nothing stood at its place
  -- before
  pub record HasCome (account : ServedRule) (listen : Addr) (old new : Tasks (MainTask R) A) (token : ℕ)
      : Type 0 where
    pub accepts : (held : Arc ServedRule Global) × (account_in (task_in new token) ≡ Some held)
        × (arc_value held ≡ account)
    pub listens : listening_in (task_in new token) ≡ Some listen
    pub fresh : (other : ℕ) → place_in other ≡ place_in token → task_in old other ≡ None

-- the path of a bind at this address is kept behind the others
abbrev pub KeepsPath : Addr → BoundPaths → BoundPaths → Type 0
KeepsPath addr old new = (bound : BoundPath) × (bound_addr bound ≡ addr)
    × (paths_in new ≡ paths_in old ++ bound ∷ [])

-- the listener at this address, whose task has this token, is noted behind the others
abbrev pub IsNoted : Addr → ℕ → List Listening → List Listening → Type 0
IsNoted listen token old new = (one : Listening) × (one.listen ≡ listen) × (one.token ≡ token)
    × (new ≡ old ++ one ∷ [])

-- why a listener of the rule of this name isn't bound
abbrev pub IsListenFault : ArrayString 16 → ServeFault → Type 0
IsListenFault name fault = (fault ≡ Listen name) ⊎ IsRunFault fault

-- why listeners aren't bound: one of a rule, the poller or memory
abbrev pub IsBindFault : ServeFault → Type 0
IsBindFault (Listen name) = ⊤
IsBindFault Device = ⊤
IsBindFault Memory = ⊤
IsBindFault other = ⊥
