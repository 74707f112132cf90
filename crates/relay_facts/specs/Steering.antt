-- Which target a word of a command names, and what a session is shown of one.
use Rattle.std.specs.Prelude.{◌≡◌, ◌==◌, ◌+◌, ◌-◌, ◌||◌, ℕ, Bool, true, false, List, if◌then◌else◌}
use Rattle.std.specs.Fmt.{decimal}
use Rattle.std.specs.Str.{bytes_eq}
use Rattle.relay_admin.specs.declared.admin.shown_target.TargetState.{TargetState}
use Rattle.relay_admin.specs.declared.admin.shown_target.TargetState.TheVariants.{Up, Drained, Down}
use Rattle.relay_admin.specs.declared.admin.target_order.Order.{Order}
use Rattle.relay_admin.specs.rules.Addr.{address_of, address_text}
use Rattle.relay_facts.specs.SetOrder.{is_drained_by, is_up_by}
use Rattle.relay_facts.specs.declared.shown_targets.ShownAt.{ShownAt}
use Rattle.relay_settings.specs.declared.targets.Target.{Target}

-- the word is the target's address, or the number of its place, from 1 on
abbrev pub names : List ℕ → ℕ → Target → Bool
names word place target =
    bytes_eq word (address_text (address_of target.at)) || bytes_eq word (decimal (place + 1))

-- the state of a target of which this is set, where its checks say that it is up or isn't
abbrev pub state_of : Order → Bool → TargetState
state_of order is_healthy =
    if is_up_by order is_healthy then (if is_drained_by order then Drained else Up) else Down

-- for how long a target has had its state, to which it came at a moment of the calendar; where none is
-- noted, for as long as the relay runs
abbrev pub ms_since : ℕ → ShownAt → ℕ
ms_since since now = if since == 0 then now.running_ms else now.calendar_ms - since
