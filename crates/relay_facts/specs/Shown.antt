-- Who is at the other end of what is shown.
use Rattle.std.specs.Prelude.{◌≡◌, Option, Some, IsSomeAnd}
use Rattle.relay_admin.specs.declared.rules.addr.Addr.{Addr}
use Rattle.relay_admin.specs.declared.admin.shown.ShownSide.{ShownSide}
use Rattle.relay_admin.specs.declared.admin.shown.ShownSide.TheVariants.{Client, Target, Listener}
use Rattle.relay_facts.specs.Acceptance.{IsTargetOf, said_then}
use Rattle.relay_facts.specs.declared.connection_facts.Acceptance.{Acceptance}

-- of the client's side its own address, if it has one; of the target's side that of a target of its
-- rule; a listener has its own
abbrev pub IsPeerOfSide : Acceptance → ShownSide → Option Addr → Type 0
IsPeerOfSide acceptance Client peer = peer ≡ acceptance.client
IsPeerOfSide acceptance Target peer = IsSomeAnd peer (IsTargetOf acceptance)
IsPeerOfSide acceptance Listener peer = peer ≡ Some (said_then acceptance).rule.listen
