-- The targets of a rule, and sockets of which nothing is said.
use Rattle.std.specs.Prelude.{false, List, [], ◌∷◌, Option, Some, None}
use Rattle.relay_admin.specs.declared.rules.addr.Addr.{Addr}
use Rattle.relay_admin.specs.declared.rules.rule.Rule.{Rule}
use Rattle.relay_config.specs.Entries.{SocketsEntry}
use Rattle.relay_settings.specs.declared.targets.Target.{Target}

-- a rule's own target, which gets clients as any other
abbrev pub own_target : Rule → Target
own_target rule = record { at = rule.target; weight = 1; is_backup = false }

-- where the first of these is
abbrev pub first_at : List Target → Option Addr
first_at [] = None
first_at (first ∷ others) = Some first.at

-- of sockets nothing is said
abbrev pub plain_sockets : SocketsEntry
plain_sockets = record { keepalive = None; user_timeout = None; backlog = None; source = None; mode = None }
