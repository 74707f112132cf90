-- The checks of targets, as tasks of the main thread's loop.
use Rattle.std.specs.Prelude.{◌≡◌, ◌≤◌, ◌+◌, ◌*◌, ◌-◌, ◌^◌, ⊤, ℕ, slice_get, Bool, true, min, Option, Some, None, Result, Ok, Err}
use Rattle.std.specs.Arc.{arc_value}
use Rattle.std.specs.Option.{option_map}
use Rattle.std.specs.declared.alloc.Global.{Global}
use Rattle.std.specs.declared.io.ErrorKind.{ErrorKind}
use Rattle.std.specs.declared.io.ErrorKind.TheVariants.{ConnectionRefused, TimedOut}
use Rattle.readiness.specs.Sockets.{failure_of, is_tcp, is_tcp_addr, written_to}
use Rattle.readiness.specs.declared.resources.WriteHalf.{WriteHalf}
use Rattle.readiness.specs.declared.tasks.Turn.{Turn}
use Rattle.readiness.specs.declared.tasks.Turn.TheVariants as turn
use Rattle.relay_admin.specs.declared.rules.addr.Addr.{Addr}
use Rattle.relay_admin.specs.rules.Addr.{address_of}
use Rattle.relay_main.specs.declared.check_task.CheckStep.{CheckStep}
use Rattle.relay_main.specs.declared.check_task.CheckStep.TheVariants as step
use Rattle.relay_main.specs.declared.check_task.CheckTask.{CheckTask}
use Rattle.relay_main.specs.declared.check_task.Checked.{Checked}
use Rattle.relay_main.specs.declared.check_task.Dial.{Dial}
use Rattle.relay_main.specs.declared.check_task.Dial.TheVariants as dial
use Rattle.relay_main.specs.declared.checks.Dialled.{Dialled}
use Rattle.relay_main.specs.declared.main_task.MainTask.{MainTask}
use Rattle.relay_main.specs.declared.main_task.MainTask.TheVariants as task
use Rattle.relay_shared.specs.Addr.{socket_address}
use Rattle.relay_facts.specs.Targets.{targets_of}
use Rattle.relay_facts.specs.declared.served_rule.Said.{Said}
use Rattle.relay_facts.specs.declared.served_rule.ServedRule.{ServedRule}
use Rattle.relay_facts.specs.declared.target_list.Targets.{Targets}
use Rattle.relay_log.specs.declared.ended.Cause.{Cause}
use Rattle.relay_log.specs.declared.ended.Cause.TheVariants as cause
use Rattle.rwloops.specs.declared.outcome.DevKind.{DevKind}
use Rattle.rwloops.specs.declared.outcome.DevKind.TheVariants as kind
use Rattle.target_pick.specs.declared.health.Outcome.{Outcome}
use Rattle.target_pick.specs.declared.health.Outcome.TheVariants.{Passed, Failed}

-- the connection of the check that is under way
abbrev pub dial_in : CheckTask → Option (WriteHalf Global)
dial_in check = check.dial

-- no check is under way
abbrev pub Rests : CheckTask → Type 0
Rests check = check.dial ≡ None

-- what a connection came to, as the outcome of a check
abbrev pub outcome_of : Result (Unit {0}) DevKind → Outcome
outcome_of (Ok made) = Passed
outcome_of (Err kind) = Failed

-- why a connection isn't made of which the system says this
abbrev pub check_cause : DevKind → Cause
check_cause kind.Refused = cause.Refused
check_cause _ = cause.Unreachable

-- why a connect that failed at once did
abbrev pub connect_cause : ErrorKind → Cause
connect_cause ConnectionRefused = cause.Refused
connect_cause TimedOut = cause.Timeout
connect_cause _ = cause.Unreachable

-- so many milliseconds after a moment
abbrev pub moment_behind : ℕ → ℕ → ℕ
moment_behind now ms = min (now + ms * 1000000) (2 ^ 64 - 1)

-- a check is to be dialled now: it has its time from then on, and the next one comes at its own
pub record IsDue (check : CheckTask) (now : ℕ) : Type 0 where
  pub until : check.until ≡ moment_behind now check.checked.checks.timeout_ms
  pub next : check.next_at ≡ moment_behind now check.checked.checks.every_ms

-- what the loop does with a check's task after this step: where one is to be dialled it doesn't sleep
-- before that
abbrev pub turn_of : CheckStep → Turn
turn_of step.IsDue = turn.Again
turn_of other = turn.Waits

-- where both are told to be one check, they are of one rule's address and of one target's, alike
abbrev pub IsSameCheck : Checked → Checked → Bool → Type 0
IsSameCheck one other same = same ≡ true
    → (address_of (arc_value one.served).listen ≡ address_of (arc_value other.served).listen)
    × ((address_of one.at ≡ address_of other.at) × (one.checks ≡ other.checks))

-- what is dialled for the task of a check: the check's target, from where the rule says; for no other task
-- anything is
abbrev pub dialled_of : {R : Type 0} → Option (MainTask R) → Option Dialled
dialled_of (Some (task.Check check)) = Some (record { at = check.checked.at; source = check.checked.source })
dialled_of other = None

-- what a dial of this address came to: a connection of the address's family that hasn't failed yet, or the
-- cause of a failure
abbrev pub IsDialOf : Addr → Dial → Type 0
IsDialOf at (dial.Begun half) =
    (is_tcp (written_to half) ≡ is_tcp_addr (socket_address at)) × (failure_of half ≡ None)
IsDialOf at (dial.Failed cause) = (kind : ErrorKind) × (cause ≡ connect_cause kind)
IsDialOf at dial.Refused = ⊤

-- the moment at which the tasks are to follow the rules has come
abbrev pub IsToFollow : Option ℕ → ℕ → Type 0
IsToFollow follow_at now = (at : ℕ) × (follow_at ≡ Some at) × (at ≤ now)

-- the check of a target of this list, of the account that says this: of the target at its place, as the
-- list says, with the rule's header and from the rule's source
pub record IsCheckOf (account : ServedRule) (list : Targets) (said : Said) (check : Checked) : Type 0
  where
    pub served : arc_value check.served ≡ account
    pub targets : arc_value check.targets ≡ list
    pub at : option_map (λ target. target.at) (slice_get (targets_of list) check.place) ≡ Some check.at
    pub checks : list.checks ≡ Some check.checks
    pub header : check.header ≡ said.header
    pub source : check.source ≡ said.sockets.source
