-- What is opened.
use Rattle.std.specs.Prelude.{◌≡◌, ◌⊎◌, ℕ, Option, Some, ⊤}
use Rattle.std.specs.Arc.{arc_value}
use Rattle.std.specs.declared.alloc.Global.{Global}
use Rattle.std.specs.declared.sync.Arc.{Arc}
use Rattle.relay_admin.specs.ServeFault.{IsRunFault}
use Rattle.relay_admin.specs.declared.serve_fault.ServeFault.{ServeFault}
use Rattle.relay_admin.specs.declared.serve_fault.ServeFault.TheVariants.{Admin}
use Rattle.relay_facts.specs.declared.served_rule.ServedRule.{ServedRule}
use Rattle.relay_main.specs.declared.main_task.MainTask.{MainTask}
use Rattle.relay_main.specs.declared.main_task.MainTask.TheVariants as task
use Rattle.relay_shared.specs.Index.{Register, EntersIndex}
use Rattle.relay_shared.specs.declared.index.Standing.TheVariants.{Listener}
use Rattle.relay_shared.specs.declared.standing.Connected.{Connected}

-- a listener by this account was entered under this id
abbrev pub IsEntered : ServedRule → ℕ → Register Connected (Arc ServedRule Global)
    → Register Connected (Arc ServedRule Global) → Type 0
IsEntered account id old new = (known : Arc ServedRule Global) × (arc_value known ≡ account)
    × EntersIndex old new id (Listener known)

-- there is a task, and it accepts admin sessions
abbrev pub IsAdmin : {R : Type 0} → Option (MainTask R) → Type 0
IsAdmin (Some (task.Admin admin)) = ⊤
IsAdmin other = ⊥

-- why the admin socket isn't opened
abbrev pub IsAdminFault : ServeFault → Type 0
IsAdminFault fault = (fault ≡ Admin) ⊎ IsRunFault fault
